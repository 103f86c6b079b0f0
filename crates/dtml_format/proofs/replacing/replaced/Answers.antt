use Rattle.std.proofs.Common.{◌≡◌, ℕ, ◌<◌, ◌∷◌, List, length, take, drop, get_or, ap, ◌∙◌, arith, rules}
use Rattle.std.specs.List.{prefix_len}
use Rattle.dtml_format.specs.Replaced.{stays}
use Rattle.dtml_format.proofs.Runs.{may_be_cut, run_is_taken, nothing_left, byte_is_made, first_is, may_be_cut_behind, ends_at, is_low}
use Rattle.dtml_format.proofs.replacing.replaced.Goals as goal

pub split_at-requires : goal.split_at-requires
split_at-requires c = rw (c.staying_len.ensures, c.as_bytes.ensures.value) (may_be_cut c.args.mark c.runs.rest.now)

pub returns-in_default : goal.returns-in_default
returns-in_default c =
    let len : c.staying_len.result ≡ prefix_len (stays c.args.mark) c.runs.rest.now = c.staying_len.ensures ∙ ap (prefix_len (stays c.args.mark)) c.as_bytes.ensures.value in
    let front : c.split_at.result.0.now ≡ take (prefix_len (stays c.args.mark) c.runs.rest.now) c.runs.rest.now = c.split_at.ensures.front ∙ ap (λ k. take k c.runs.rest.now) len in
    let back : c.split_at.result.1.now ≡ drop (prefix_len (stays c.args.mark) c.runs.rest.now) c.runs.rest.now = c.split_at.ensures.back ∙ ap (λ k. drop k c.runs.rest.now) len in
    rw c.in_ok-push_run.ensures (nothing_left c.args.mark _ c.split_at.result.1.now _ (omega (arith, c.as_bytes-in-runs.ensures.len, c.in_default.ensures.item)) (run_is_taken c.args.mark c.runs.rest.now _ _ c.split_at.result.1.now _ front back c.runs.invariant.is))

first : (bytes back : List ℕ) (b : ℕ) → bytes ≡ back → 0 < length bytes → b ≡ get_or bytes 0 b → back ≡ b ∷ drop 1 back
first bytes back b e lt is = rw (← e) (first_is bytes b lt is)

pub push_instead-requires : goal.push_instead-requires
push_instead-requires c =
    let len : c.staying_len.result ≡ prefix_len (stays c.args.mark) c.runs.rest.now = c.staying_len.ensures ∙ ap (prefix_len (stays c.args.mark)) c.as_bytes.ensures.value in
    let back : c.split_at.result.1.now ≡ drop (prefix_len (stays c.args.mark) c.runs.rest.now) c.runs.rest.now = c.split_at.ensures.back ∙ ap (λ k. drop k c.runs.rest.now) len in
    let item = c.in-Some.ensures.item in
    ends_at c.args.mark c.runs.rest.now c.split_at.result.1.now c.in-Some.byte.now back (first c.as_bytes-in-runs.result.now c.split_at.result.1.now c.in-Some.byte.now c.as_bytes-in-runs.ensures.value item.3.0 item.1)

pub split_at-requires-in-runs : goal.split_at-requires-in-runs
split_at-requires-in-runs c =
    let len : c.staying_len.result ≡ prefix_len (stays c.args.mark) c.runs.rest.now = c.staying_len.ensures ∙ ap (prefix_len (stays c.args.mark)) c.as_bytes.ensures.value in
    let back : c.split_at.result.1.now ≡ drop (prefix_len (stays c.args.mark) c.runs.rest.now) c.runs.rest.now = c.split_at.ensures.back ∙ ap (λ k. drop k c.runs.rest.now) len in
    let item = c.in-Some.ensures.item in
    let goes = ends_at c.args.mark c.runs.rest.now c.split_at.result.1.now c.in-Some.byte.now back (first c.as_bytes-in-runs.result.now c.split_at.result.1.now c.in-Some.byte.now c.as_bytes-in-runs.ensures.value item.3.0 item.1) in
    may_be_cut_behind c.split_at.result.1.now c.as_bytes-in-runs.result.now c.in-Some.byte.now c.as_bytes-in-runs.ensures.value c.as_bytes-in-runs.ensures.utf8 item.3.0 item.1 (is_low c.args.mark c.in-Some.byte.now goes)

pub runs-preserved : goal.runs-preserved
runs-preserved c =
    let len : c.staying_len.result ≡ prefix_len (stays c.args.mark) c.runs.rest.now = c.staying_len.ensures ∙ ap (prefix_len (stays c.args.mark)) c.as_bytes.ensures.value in
    let front : c.split_at.result.0.now ≡ take (prefix_len (stays c.args.mark) c.runs.rest.now) c.runs.rest.now = c.split_at.ensures.front ∙ ap (λ k. take k c.runs.rest.now) len in
    let back : c.split_at.result.1.now ≡ drop (prefix_len (stays c.args.mark) c.runs.rest.now) c.runs.rest.now = c.split_at.ensures.back ∙ ap (λ k. drop k c.runs.rest.now) len in
    let item = c.in-Some.ensures.item in
    record {
      is = rw (c.in_ok-push_instead.ensures, c.in_ok-push_run.ensures, c.split_at-in-runs.ensures.back)
          (byte_is_made c.args.mark _ c.split_at.result.1.now _ c.in-Some.byte.now (first c.as_bytes-in-runs.result.now c.split_at.result.1.now c.in-Some.byte.now c.as_bytes-in-runs.ensures.value item.3.0 item.1)
          (run_is_taken c.args.mark c.runs.rest.now _ _ c.split_at.result.1.now _ front back c.runs.invariant.is));
      text = search rules;
    }
