use Rattle.std.proofs.Common.{append_assoc}
use Rattle.repozo.proofs.index.put_row.Goals as goal

pub returns : goal.returns
returns c = rw (c.in_ok-append-7.ensures.ok, c.in_ok-put_digest.ensures, c.in_ok-append-6.ensures.ok, c.in_ok-append-5.ensures.ok, c.in_ok-append-4.ensures.ok, c.in_ok-append-3.ensures.ok, c.in_ok-append-2.ensures.ok, c.in_ok-append.ensures.ok, c.as_bytes.ensures, c.as_bytes-2.ensures.value, c.in_ok-to_string.ensures.ok, c.as_bytes-3.ensures.value, c.in_ok-to_string-2.ensures.ok) (simp append_assoc)
