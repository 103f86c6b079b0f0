-- A run that writes nothing, where nothing is a cause, is one for which memory was wanting.
use Rattle.std.proofs.Common.{◌≡◌, ℕ, [], ◌∷◌, Option, Some, refl, subst, inl, inr, ◌∙◌, ap, arith}
use Rattle.std.specs.Prelude.{codes}
use Rattle.clap.proofs.OnLiterals.{clap_on_literals}
use Rattle.words.specs.Asking.{Asked, Check, asked_of, by_subcommand}
use Rattle.fs_record.specs.File.{front_of, magic}
use Rattle.fs_record.specs.Opening.{Cut, is_end}
use Rattle.zope.specs.Causes.{DidAs, NoCause}
use Rattle.zope.specs.Ends.{Ends, status_of}
use Rattle.zope.specs.Numbers.{NumbersPrinted}
use Rattle.zope.specs.Outside.{told}
use Rattle.zope.specs.Worked.{calm, checking, untouched}
use Rattle.zope.proofs.NoCauses.{Laws, only_memory}

opens : Cut magic (front_of []) 4
unfolding is_end
opens = ([], record { file = magic; is_file = record { blocks = []; right = tt; spelled = refl; said = refl }; joined = refl; at = refl }, refl)

asks : asked_of checking ≡ Some (Check (codes "a"))
unfolding clap_on_literals by_subcommand
asks = refl

sound : NoCause checking untouched untouched
sound = (
  Check (codes "a"),
  asks,
  record {
    entries = (codes "a", magic) ∷ [];
    shelf = refl;
    bytes = magic;
    there = refl;
    fits = omega arith;
    front = front_of [];
    end = 4;
    opens = opens;
    sink_calm = λ rose. omega (arith, rose);
    disk_calm = λ failed. elim failed [
      | inl rose ↦ omega (arith, rose)
      | inr unsound ↦ unsound tt
    ];
  },
)

-- nothing was printed
unprinted : NumbersPrinted (codes "a") untouched.files untouched.written untouched.written → ⊥
unprinted did = let printed = did.printed in cc

asks_one : (o : Option Asked) (a b : Asked) → o ≡ Some a → o ≡ Some b → a ≡ b
asks_one o a b p q = cc

pub only_want_of_memory : Laws → (status : ℕ) → Ends checking untouched untouched status → status ≡ 7
only_want_of_memory laws status (inl (zero, (asked, is, did))) =
    absurd (unprinted (subst (λ (a : Asked). DidAs a untouched untouched) (asks_one (asked_of checking) asked (Check (codes "a")) is asks) did))
only_want_of_memory laws status (inr (inl (e, is, comes))) =
    is ∙ ap status_of (only_memory checking untouched (told untouched comes.0 comes.1) (Some []) calm e laws comes.2 comes.3 sound)
only_want_of_memory laws status (inr (inr (inl six))) = absurd (omega (arith, six.1))
only_want_of_memory laws status (inr (inr (inr seven))) = seven
