-- What bytes lead to, from what decoding them gives.
use Rattle.std.proofs.Common.{ℕ, ◌≡◌, ◌∙◌, ap, sym, subst, List, Some, None, Ok, Err}
use Rattle.zobject.specs.declared.object.Object.{Object}
use Rattle.zobject.specs.declared.refusal.CodecRefusal.{CodecRefusal}
use Rattle.zobject.specs.declared.refusal.CodecRefusal.TheVariants.{BadRecord}
use Rattle.zcodec.specs.Reading.{Decodes, read}
use Rattle.site_links.specs.Linked.{linked, links_of, links_read}

pub linked_by : (bytes : List ℕ) (o : Object) (os : List ℕ) → read bytes ≡ Ok o → os ≡ links_of o → Some os ≡ linked bytes
unfolding linked read
linked_by bytes o os is links = ap (λ (x : List ℕ). Some x) links ∙ sym (ap links_read is)

pub one_object : (o p : Object) (os : List ℕ) → Decodes (Ok p) (Ok o) → os ≡ links_of p → Some os ≡ Some (links_of o)
one_object o p os same links = let is : o ≡ p = cc same in ap (λ (x : List ℕ). Some x) (links ∙ sym (ap links_of is))

pub linked_none : (bytes : List ℕ) (r : CodecRefusal) (at : ℕ) → r ≡ BadRecord at → Decodes (Err r) (read bytes) → None ≡ linked bytes
unfolding linked read
linked_none bytes r at bad is = sym (ap links_read (subst (λ (x : CodecRefusal). Decodes (Err x) (read bytes)) bad is))

pub spells_none : (o : Object) (r : CodecRefusal) (at : ℕ) → r ≡ BadRecord at → Decodes (Err r) (Ok o) → ⊥
spells_none o r at bad is = absurd (let clash : Ok o ≡ Err at = subst (λ (x : CodecRefusal). Decodes (Err x) (Ok o)) bad is in cc)
