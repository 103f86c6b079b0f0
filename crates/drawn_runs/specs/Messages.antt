-- The four messages that a worker may be given.
--
-- RFC 1945 and RFC 7230: a request line, header lines and an empty line, each ended by CRLF, and a body.
use Rattle.std.specs.Prelude.{ℕ, ◌==◌, List, [], ◌∷◌, ◌++◌, codes, decimal, length, if◌then◌else◌}

abbrev pub line_end : List ℕ
line_end = 13 ∷ 10 ∷ []

abbrev pub get : (path : List ℕ) → List ℕ
get path = codes "GET " ++ path ++ codes " HTTP/1.0" ++ line_end ++ line_end

-- what is between the path of a form and the length of its body; the manager is `admin` with the password `secret`
abbrev pub form_head : List ℕ
form_head = codes " HTTP/1.1" ++ line_end ++ codes "Host: localhost" ++ line_end
    ++ codes "Authorization: Basic YWRtaW46c2VjcmV0" ++ line_end ++ codes "Content-Length: "

-- a form that the manager sends
abbrev pub post : (path body : List ℕ) → List ℕ
post path body = codes "POST " ++ path ++ form_head ++ decimal (length body) ++ (line_end ++ line_end) ++ body

-- the source of the start page becomes `x`
abbrev pub edit : List ℕ
edit = post (codes "/index_html/manage_edit") (codes "data=x")

-- a document with the source `f` comes to the root folder, whose id has the number
abbrev pub addition : ℕ → List ℕ
addition number = post (codes "/manage_addDTMLDocument") (codes "id=d" ++ decimal number ++ codes "&file=f")

-- the message of a kind, which the request with this number has
abbrev pub message : (kind number : ℕ) → List ℕ
message kind number =
    if kind == 0 then get (codes "/")
    else (if kind == 1 then get (codes "/index_html")
    else (if kind == 2 then edit
    else addition number))
