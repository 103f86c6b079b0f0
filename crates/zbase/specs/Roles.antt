-- Names of roles.
--
-- Zope Book, "Users and Security".
use Rattle.std.specs.Prelude.{ℕ, ◌<◌, ◌≤◌, ◌≢◌, List, length}
use Rattle.std.specs.List.{AllByRecursion}

-- a role is 1 to 64 characters from space to `~`, without comma
abbrev pub IsRole : List ℕ → Type 0
IsRole role = (0 < length role) × (length role ≤ 64) × AllByRecursion (λ b. (32 ≤ b) × (b ≤ 126) × (b ≢ 44)) role
