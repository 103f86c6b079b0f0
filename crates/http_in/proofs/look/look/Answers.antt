use Rattle.std.proofs.Common.{◌≡◌, ◌∙◌, ◌≤◌, length, length-drop, ap, sym, subst, Some, None, take, drop, arith}
use Rattle.std.proofs.lemmas.List.{length-take, take_all}
use Rattle.http_in.specs.Ends.{head_end}
use Rattle.http_in.specs.Inside.{IsPassed}
use Rattle.http_in.specs.EndLaws.{end_stands, passed_on}
use Rattle.http_in.specs.MessageLaws.{end_behind, none_behind, none_yet, too_large}
use Rattle.http_in.proofs.Quiet.{quiet_head}
use Rattle.http_in.specs.Messages.{most_head}
use Rattle.http_in.proofs.look.look.Goals as goal

pub overflow_add-clean : goal.overflow_add-clean
overflow_add-clean c = omega (arith, (end_stands c.split_at.result.1.now c.in-Ends.end c.in-Ends.ensures).within, c.split_at.ensures.back_len)

pub behind_head-requires : goal.behind_head-requires
behind_head-requires c =
    let found : head_end (drop c.args.clean (take most_head c.args.bytes.now)) ≡ Some c.in-Ends.end = ap head_end (sym (c.split_at.ensures.back ∙ ap (drop c.args.clean) c.window_of-window.ensures)) ∙ c.in-Ends.ensures in
    record { end = end_behind c.args.bytes.now c.args.clean c.in-Ends.end c.requires.most c.requires.within c.requires.passed found }

pub returns-then-bytes-lt-MOST_HEAD : goal.returns-then-bytes-lt-MOST_HEAD
returns-then-bytes-lt-MOST_HEAD c =
    let all : take most_head c.args.bytes.now ≡ c.args.bytes.now = take_all most_head c.args.bytes.now (omega arith) in
    let window : c.window_of-window.result.now ≡ c.args.bytes.now = c.window_of-window.ensures ∙ all in
    let back : c.split_at.result.1.now ≡ drop c.args.clean c.args.bytes.now = c.split_at.ensures.back ∙ ap (drop c.args.clean) window in
    let found : head_end (drop c.args.clean (take most_head c.args.bytes.now)) ≡ None = ap head_end (sym (c.split_at.ensures.back ∙ ap (drop c.args.clean) c.window_of-window.ensures)) ∙ c.in-Goes.ensures.0 in
    let size : c.in-Goes.more ≤ length (drop c.args.clean c.args.bytes.now) = rw (← back) c.in-Goes.ensures.1 in
    let sum = length-drop c.args.clean c.args.bytes.now in (
      none_yet c.args.bytes.now (none_behind c.args.bytes.now c.args.clean c.requires.most c.requires.within c.requires.passed found) c.if-bytes-lt-MOST_HEAD.true,
      omega (arith, size, sum, c.requires.within),
      omega (arith, size, sum, c.requires.within, c.if-bytes-lt-MOST_HEAD.true),
      passed_on c.args.bytes.now c.args.clean c.in-Goes.more c.requires.passed (subst (λ b. IsPassed (take c.in-Goes.more b)) back c.in-Goes.ensures.2),
      quiet_head c.args.bytes.now (ap head_end (sym all) ∙ none_behind c.args.bytes.now c.args.clean c.requires.most c.requires.within c.requires.passed found),
    )

pub returns-else-bytes-lt-MOST_HEAD : goal.returns-else-bytes-lt-MOST_HEAD
returns-else-bytes-lt-MOST_HEAD c =
    let found : head_end (drop c.args.clean (take most_head c.args.bytes.now)) ≡ None = ap head_end (sym (c.split_at.ensures.back ∙ ap (drop c.args.clean) c.window_of-window.ensures)) ∙ c.in-Goes.ensures.0 in
    too_large c.args.bytes.now (none_behind c.args.bytes.now c.args.clean c.requires.most c.requires.within c.requires.passed found) c.if-bytes-lt-MOST_HEAD.false

pub split_at-requires : goal.split_at-requires
split_at-requires c = rw c.window_of-window.ensures (omega (arith, length-take most_head c.args.bytes.now, c.requires.within, c.requires.most))
