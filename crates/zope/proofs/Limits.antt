-- The limit that words ask for is no more than a file may have, and a server has one to sixteen clients in a round.
use Rattle.std.proofs.Common.{◌≡◌, ◌≤◌, ◌&&◌, ℕ, Bool, true, false, List, Option, None, Some, refl, subst, arith, nat_le}
use Rattle.std.specs.Prelude.{IfSome, codes, length, nat_lt, option_and_then, option_map, if◌then◌else◌}
use Rattle.std.specs.Str.{all_ascii_digits}
use Rattle.std.specs.Str.Parse.{digits_value}
use Rattle.std.proofs.lemmas.Bool.Decides.{nat_tests}
use Rattle.clap.specs.Words.{Row, Text, first_of, subcommand_of}
use Rattle.fs_store.specs.Stores.{most_length}
use Rattle.words.specs.CommandLine.{zope}
use Rattle.words.specs.Asking.{Asked, Backup, Check, Dump, Gen, Init, Pack, Replay, Restore, Serial, Serve, above_zero, asked_of, backup_in, backup_of, by_name, by_subcommand, check_of, clients_in, clients_of, connections_of, drawn_number, dump_of, gen_of, init_of, is_given, is_index_of, limit_in, limit_of, number_of, pack_of, pack_tid, port_of, replay_of, repo_of, restore_of, serial_of, serve_of}

abbrev IsWithin : Asked → Type 0
IsWithin (Init file name password) = Unit {0}
IsWithin (Replay file limit) = limit ≤ most_length
IsWithin (Serve file port connections clients record_) = (1 ≤ clients) × (clients ≤ 16)
IsWithin (Check file) = Unit {0}
IsWithin (Dump file) = Unit {0}
IsWithin (Backup file repo full) = Unit {0}
IsWithin (Restore repo name) = Unit {0}
IsWithin (Pack file before) = Unit {0}
IsWithin (Serial file limit) = limit ≤ most_length
IsWithin (Gen number) = Unit {0}

Within : Option Asked → Type 0
Within o = IfSome o IsWithin

either : (b : Bool) (x y : Option Asked) → Within x → Within y → Within (if b then x else y)
either true x y p q = p
either false x y p q = q

none : Within None
unfolding Within
none = tt

inits : (f n p : Option Text) → Within (option_and_then (λ file. option_and_then (λ name. option_map (λ password. Init file name password) p) n) f)
unfolding Within
inits None n p = tt
inits (Some file) None p = tt
inits (Some file) (Some name) None = tt
inits (Some file) (Some name) (Some password) = tt

numbered : (most : ℕ) (a c : Bool) (value : ℕ) → IfSome (if a && (c && nat_le value most) then Some value else None) (λ n. n ≤ most)
numbered most false c value = tt
numbered most true false value = tt
numbered most true true value = go (nat_le value most) refl
  where
    go : (k : Bool) → nat_le value most ≡ k → IfSome (if k then Some value else None) (λ n. n ≤ most)
    go true e = grind (arith, nat_tests, e)
    go false e = tt

limited : (t : Option Text) → IfSome (limit_in t) (λ n. n ≤ most_length)
limited None = omega arith
limited (Some text) = numbered most_length (nat_lt 0 (length text) && nat_le (length text) 20) (all_ascii_digits text) (digits_value 10 text)

replays : (f : Option Text) (l : Option ℕ) → IfSome l (λ n. n ≤ most_length) → Within (option_and_then (λ file. option_map (Replay file) l) f)
unfolding Within
replays None l most = tt
replays (Some file) None most = tt
replays (Some file) (Some limit) most = most

serials : (f : Option Text) (l : Option ℕ) → IfSome l (λ n. n ≤ most_length) → Within (option_and_then (λ file. option_map (Serial file) l) f)
unfolding Within
serials None l most = tt
serials (Some file) None most = tt
serials (Some file) (Some limit) most = most

draws : (n : Option ℕ) → Within (option_map Gen n)
unfolding Within
draws None = tt
draws (Some number) = tt

above : (o : Option ℕ) → IfSome o (λ n. n ≤ 16) → IfSome (option_and_then above_zero o) (λ n. (1 ≤ n) × (n ≤ 16))
above None most = tt
above (Some n) most = go (nat_lt 0 n) refl
  where
    go : (k : Bool) → nat_lt 0 n ≡ k → IfSome (if k then Some n else None) (λ m. (1 ≤ m) × (m ≤ 16))
    go true e = (grind (arith, nat_tests, e), most)
    go false e = tt

clients : (t : Option Text) → IfSome (clients_in t) (λ n. (1 ≤ n) × (n ≤ 16))
clients None = (omega arith, omega arith)
clients (Some text) = above (number_of 16 text) (numbered 16 (nat_lt 0 (length text) && nat_le (length text) 20) (all_ascii_digits text) (digits_value 10 text))

serves : (f : Option Text) (p c n : Option ℕ) (r : Option Text) → IfSome n (λ k. (1 ≤ k) × (k ≤ 16))
    → Within (option_and_then (λ file. option_and_then (λ port. option_and_then (λ connections. option_and_then (λ most. option_map (λ record_. Serve file port connections most record_) r) n) c) p) f)
unfolding Within
serves None p c n r within = tt
serves (Some file) None c n r within = tt
serves (Some file) (Some port) None n r within = tt
serves (Some file) (Some port) (Some connections) None r within = tt
serves (Some file) (Some port) (Some connections) (Some most) None within = tt
serves (Some file) (Some port) (Some connections) (Some most) (Some record_) within = within

checks : (f : Option Text) → Within (option_map Check f)
unfolding Within
checks None = tt
checks (Some file) = tt

dumps : (f : Option Text) → Within (option_map Dump f)
unfolding Within
dumps None = tt
dumps (Some file) = tt

backup : (rows : List Row) (file repo : Text) (own : Bool) → Within (if own then None else Some (Backup file repo (is_given (codes "full") rows)))
unfolding Within
backup rows file repo true = tt
backup rows file repo false = tt

backups : (rows : List Row) (f r : Option Text) → Within (option_and_then (λ file. option_and_then (backup_in rows file) r) f)
backups rows None r = none
backups rows (Some file) None = none
backups rows (Some file) (Some repo) = backup rows file repo (is_index_of repo file)

restores : (r o : Option Text) → Within (option_and_then (λ repo. option_map (Restore repo) o) r)
unfolding Within
restores None o = tt
restores (Some repo) None = tt
restores (Some repo) (Some name) = tt

packs : (f : Option Text) (t : Option ℕ) → Within (option_and_then (λ file. option_map (Pack file) t) f)
unfolding Within
packs None t = tt
packs (Some file) None = tt
packs (Some file) (Some before) = tt

named : (name : Text) (rows : List Row) → Within (by_name name rows)
named name rows =
    either _ (init_of rows) _ (inits (first_of (codes "FILE") rows) (first_of (codes "NAME") rows) (first_of (codes "PASSWORD") rows))
    (either _ (replay_of rows) _ (replays (first_of (codes "FILE") rows) (limit_of rows) (limited (first_of (codes "limit") rows)))
    (either _ (serve_of rows) _ (serves (first_of (codes "FILE") rows) (port_of rows) (connections_of rows) (clients_of rows) (first_of (codes "record") rows) (clients (first_of (codes "clients") rows)))
    (either _ (check_of rows) _ (checks (first_of (codes "FILE") rows))
    (either _ (dump_of rows) _ (dumps (first_of (codes "FILE") rows))
    (either _ (backup_of rows) _ (backups rows (first_of (codes "FILE") rows) (repo_of rows))
    (either _ (restore_of rows) _ (restores (repo_of rows) (first_of (codes "OUT") rows))
    (either _ (pack_of rows) _ (packs (first_of (codes "FILE") rows) (pack_tid rows))
    (either _ (serial_of rows) _ (serials (first_of (codes "FILE") rows) (limit_of rows) (limited (first_of (codes "limit") rows)))
    (either _ (gen_of rows) None (draws (drawn_number rows)) none)))))))))

found : (o : Option (Text × List Row)) → Within (by_subcommand o)
unfolding by_subcommand
found None = none
found (Some p) = named p.0 p.1

within_serve : (name : Text) (port connections most : ℕ) (record_ : Text) → Within (Some (Serve name port connections most record_)) → (1 ≤ most) × (most ≤ 16)
unfolding Within
within_serve name port connections most record_ within = within

pub clients_within : (words : List Text) (name : Text) (port connections most : ℕ) (record_ : Text) → asked_of words ≡ Some (Serve name port connections most record_) → (1 ≤ most) × (most ≤ 16)
clients_within words name port connections most record_ asks =
    within_serve name port connections most record_ (subst Within asks (either _ (by_subcommand (subcommand_of zope words)) None (found (subcommand_of zope words)) none))

within_replay : (name : Text) (limit : ℕ) → Within (Some (Replay name limit)) → limit ≤ most_length
unfolding Within
within_replay name limit within = within

pub limit_within : (words : List Text) (name : Text) (limit : ℕ) → asked_of words ≡ Some (Replay name limit) → limit ≤ most_length
limit_within words name limit asks = within_replay name limit (subst Within asks (either _ (by_subcommand (subcommand_of zope words)) None (found (subcommand_of zope words)) none))

within_serial : (name : Text) (limit : ℕ) → Within (Some (Serial name limit)) → limit ≤ most_length
unfolding Within
within_serial name limit within = within

pub serial_within : (words : List Text) (name : Text) (limit : ℕ) → asked_of words ≡ Some (Serial name limit) → limit ≤ most_length
serial_within words name limit asks = within_serial name limit (subst Within asks (either _ (by_subcommand (subcommand_of zope words)) None (found (subcommand_of zope words)) none))
