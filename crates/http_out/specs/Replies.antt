-- A reply as bytes: the head of HTTP/1.1 and the body.
--
-- RFC 9112, "Message Format"; RFC 9110, "Status Codes".
use Rattle.std.specs.Prelude.{ℕ, ◌≡◌, ◌==◌, true, List, [], ◌∷◌, ◌++◌, length, if◌then◌else◌, codes, decimal}
use Rattle.std.specs.List.{list_any}
use Rattle.zbase.specs.Hex.{hex16_text}
use Rattle.evaluator.specs.declared.reply.Kind.{Kind}
use Rattle.evaluator.specs.declared.reply.Mark.{Mark}
use Rattle.evaluator.specs.declared.reply.Reply.{Reply}
use Rattle.evaluator.specs.Change.{statuses}

abbrev pub IsStatus : ℕ → Type 0
IsStatus code = list_any (λ n. n == code) statuses ≡ true

-- the reason phrase of a status code
abbrev pub phrase : ℕ → List ℕ
phrase code =
    if code == 200 then codes "OK"
    else if code == 400 then codes "Bad Request"
    else if code == 401 then codes "Unauthorized"
    else if code == 404 then codes "Not Found"
    else if code == 411 then codes "Length Required"
    else if code == 413 then codes "Payload Too Large"
    else if code == 414 then codes "URI Too Long"
    else if code == 415 then codes "Unsupported Media Type"
    else if code == 431 then codes "Request Header Fields Too Large"
    else if code == 500 then codes "Internal Server Error"
    else if code == 501 then codes "Not Implemented"
    else codes "Service Unavailable"

abbrev pub crlf : List ℕ
crlf = 13 ∷ 10 ∷ []

-- the status line
unfoldable pub status_line : ℕ → List ℕ
status_line code = codes "HTTP/1.1 " ++ decimal code ++ (32 ∷ []) ++ phrase code ++ crlf

-- a header line
unfoldable pub header : List ℕ → List ℕ → List ℕ
header name value = name ++ (58 ∷ 32 ∷ []) ++ value ++ crlf

abbrev pub content_type : Kind → List ℕ
content_type Kind.Html = codes "text/html; charset=utf-8"
content_type Kind.Plain = codes "text/plain; charset=utf-8"

-- a 401 asks for the credentials of the realm
unfoldable pub challenge : ℕ → List ℕ
challenge code = if code == 401 then header (codes "WWW-Authenticate") (codes "basic realm=\"Zope\"") else []

-- the transaction that the reply goes with
unfoldable pub mark_text : Mark → List ℕ
mark_text (Mark.Read t) = codes "read " ++ hex16_text t
mark_text (Mark.Commit t) = codes "commit " ++ hex16_text t
mark_text Mark.Empty = codes "none"

-- the body isn't sent where the request was for the head alone
abbrev pub sent_body : Reply → List ℕ
sent_body x = if x.head_only then [] else x.body

unfoldable pub answer : Reply → Mark → List ℕ
answer x mark =
    status_line x.status ++ challenge x.status
    ++ header (codes "Content-Type") (content_type x.kind)
    ++ header (codes "Content-Length") (decimal (length x.body))
    ++ header (codes "X-Transaction") (mark_text mark)
    ++ header (codes "Connection") (codes "close")
    ++ crlf ++ sent_body x
