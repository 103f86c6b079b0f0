-- What a stop may leave of the file of a new site while it is made.
use Rattle.std.specs.Prelude.{◌≡◌, ◌⊎◌, ℕ, List, []}
use Rattle.fs_record.specs.File.{front_of}
use Rattle.fs_record.specs.Opening.{Cut, Damaged}
use Rattle.fs_record.specs.declared.damage.Damage.TheVariants.{BadMagic}
use Rattle.new_site.specs.NewSite.{site_file}

-- it doesn't begin with `FS21`
abbrev pub IsNoFile : List ℕ → Type 0
IsNoFile image = Damaged image 0 BadMagic

-- it opens to the history without transactions
abbrev pub OpensEmpty : List ℕ → Type 0
OpensEmpty image = (end : ℕ) × Cut image (front_of []) end

-- no file, or one without transactions, or the whole file of the site
abbrev pub IsBegun : ℕ → List ℕ → List ℕ → List ℕ → Type 0
IsBegun stamp name password image = IsNoFile image ⊎ (OpensEmpty image ⊎ (image ≡ site_file stamp name password))
