use Rattle.std.proofs.Common.{append-nil, refl, sym}
use Rattle.http_out.specs.Replies.{answer}
use Rattle.http_out.proofs.reply.reply_bytes.Goals as goal

pub returns-then-reply : goal.returns-then-reply
unfolding answer
returns-then-reply c =
    rw (c.in_ok-append.ensures.ok, c.in_ok-put_header-4.ensures, c.in_ok-put_header-3.ensures, c.as_slice.ensures, c.in_ok-mark.ensures, c.in_ok-put_header-2.ensures, c.as_bytes-2.ensures.value, c.in_ok-length.ensures.ok, c.len.ensures, c.in_ok-put_header.ensures, c.as_bytes.ensures.value, c.content_type_of.ensures, c.in_ok-put_challenge.ensures, c.in_ok-put_status_line.ensures, c.new-out.ensures, c.if-reply.true) (sym (append-nil _))

pub returns : goal.returns
unfolding answer
returns c =
    rw (c.in_ok-append-2.ensures.ok, c.as_bytes-3.ensures, c.in_ok-append.ensures.ok, c.in_ok-put_header-4.ensures, c.in_ok-put_header-3.ensures, c.as_slice.ensures, c.in_ok-mark.ensures, c.in_ok-put_header-2.ensures, c.as_bytes-2.ensures.value, c.in_ok-length.ensures.ok, c.len.ensures, c.in_ok-put_header.ensures, c.as_bytes.ensures.value, c.content_type_of.ensures, c.in_ok-put_challenge.ensures, c.in_ok-put_status_line.ensures, c.new-out.ensures, c.if-reply.false) refl
