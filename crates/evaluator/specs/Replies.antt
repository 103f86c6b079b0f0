-- Replies of one line.
use Rattle.std.specs.Prelude.{ℕ, false, List, [], ◌∷◌, ◌++◌, None}
use Rattle.evaluator.specs.declared.reply.Kind.{Kind}
use Rattle.evaluator.specs.declared.reply.Reply.{Reply}

-- a plain reply of one line
abbrev pub one_line : ℕ → List ℕ → Reply
one_line status text = record { status = status; kind = Kind.Plain; head_only = false; body = text ++ 10 ∷ []; shown = []; denied = None }
