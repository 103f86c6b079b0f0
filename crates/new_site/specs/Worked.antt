-- The sizes of what is written of a new site.
use Rattle.std.proofs.Common.{◌≡◌, ℕ, ◌+◌, length, refl, codes, ◌∙◌, arith}
use Rattle.fs_record.specs.File.{magic}
use Rattle.fs_record.specs.Sizes.{length-transaction}
use Rattle.fs_record.specs.Spelling.{block_spelling}
use Rattle.fs_record.specs.Written.{transaction}
use Rattle.new_site.specs.NewSite.{file_with, items, site_file, texts}
use Rattle.new_site.specs.SiteLaws.{page_size, root_size, users_size}

-- a manager of five letters
site_size : length (site_file 1 (codes "admin") (codes "secret")) ≡ 415
unfolding file_with
site_size = omega (arith, length-transaction 4 1 32 texts (items (codes "admin") (codes "secret")), root_size, users_size (codes "admin") (codes "secret"), page_size)
