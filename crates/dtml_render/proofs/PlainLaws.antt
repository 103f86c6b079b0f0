-- Marks that change no text leave each as it is.
use Rattle.std.proofs.Common.{ℕ, ◌≡◌, refl, Bool, true, false, not, ◌||◌, is_some, List, Option, None, Some}
use Rattle.dtml_format.specs.Shaping.{shape}
use Rattle.dtml_parse.specs.Trees.{Marks}
use Rattle.dtml_render.specs.Plain.{is_plain}
use Rattle.dtml_render.specs.Rendering.{marks_of}

plain_so : (lower upper capitalize html url lines : Bool) (size : Option ℕ) (missing etc : Option (List ℕ)) (t : List ℕ) → not ((lower || upper || capitalize) || (html || url || lines) || is_some size) ≡ true →
    shape t (record { html_quote = html; url_quote = url; newline_to_br = lines; lower = lower; upper = upper; capitalize = capitalize; size = size; etc = etc }) ≡ t
unfolding shape Rattle.dtml_format.specs.Shaping.quoted Rattle.dtml_format.specs.Shaping.cased Rattle.dtml_format.specs.Shaping.sized
plain_so true upper capitalize html url lines size missing etc t e = absurd (let bad = e in cc)
plain_so false true capitalize html url lines size missing etc t e = absurd (let bad = e in cc)
plain_so false false true html url lines size missing etc t e = absurd (let bad = e in cc)
plain_so false false false true url lines size missing etc t e = absurd (let bad = e in cc)
plain_so false false false false true lines size missing etc t e = absurd (let bad = e in cc)
plain_so false false false false false true size missing etc t e = absurd (let bad = e in cc)
plain_so false false false false false false (Some n) missing etc t e = absurd (let bad = e in cc)
plain_so false false false false false false None missing etc t e = refl

pub plain_stays : (m : Marks) (t : List ℕ) → is_plain m ≡ true → shape t (marks_of m) ≡ t
plain_stays m t e = plain_so m.lower m.upper m.capitalize m.html_quote m.url_quote m.newline_to_br m.size m.missing m.etc t e
