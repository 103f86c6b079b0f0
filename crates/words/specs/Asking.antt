-- What the words of a command line ask for.
use Rattle.std.specs.Prelude.{ℕ, ◌+◌, ◌-◌, ◌*◌, Bool, false, not, ◌&&◌, ◌==◌, List, [], ◌∷◌, ◌++◌, Option, Some, None, codes, length, nat_le, nat_lt, option_and_then, option_map, if◌then◌else◌}
use Rattle.std.specs.List.{list_any}
use Rattle.std.specs.Option.{option_map_or}
use Rattle.std.specs.Str.{bytes_eq, all_ascii_digits}
use Rattle.std.specs.Str.Parse.{digits_value}
use Rattle.clap.specs.Words.{Row, Text, subcommand_of, fault_of, first_of}
use Rattle.zbase.specs.Hex.{hex16_text}
use Rattle.zbase.specs.Limits.{greatest_number}
use Rattle.fs_store.specs.Stores.{most_length}
use Rattle.words.specs.CommandLine.{zope}

-- ---- numbers

-- 1 to 20 decimal digits whose number is at most `most`
abbrev pub number_of : ℕ → Text → Option ℕ
number_of most text = if (nat_lt 0 (length text) && nat_le (length text) 20) && (all_ascii_digits text && nat_le (digits_value 10 text) most)
    then Some (digits_value 10 text) else None

-- the number of a hexadecimal digit in lower case
abbrev pub digit_value : ℕ → ℕ
digit_value byte = if nat_lt byte 58 then byte - 48 else byte - 87

-- a number, and digits behind it
abbrev pub value_behind : ℕ → Text → ℕ
value_behind n [] = n
value_behind n (byte ∷ bytes) = value_behind (n * 16 + digit_value byte) bytes

-- the id of a transaction whose 16 digits the text is
abbrev pub tid_of : Text → Option ℕ
tid_of text = if bytes_eq (hex16_text (value_behind 0 text)) text then Some (value_behind 0 text) else None

-- ---- repositories

-- a text without a line feed
abbrev pub is_one_line : Text → Bool
is_one_line text = not (list_any (λ byte. byte == 10) text)

-- the index of a repository is the file of its name and ".dat"
abbrev pub is_index_of : (repo file : Text) → Bool
is_index_of repo file = bytes_eq file (repo ++ codes ".dat")

-- ---- what is asked for

pub data Asked : Type 0 where
  Init : Text → Text → Text → Asked
  Replay : Text → ℕ → Asked
  Serve : Text → ℕ → ℕ → ℕ → Text → Asked
  Check : Text → Asked
  Dump : Text → Asked
  Backup : (file repo : Text) → (full : Bool) → Asked
  Restore : (repo out : Text) → Asked
  Pack : (file : Text) → (before : ℕ) → Asked
  Serial : (file : Text) → (limit : ℕ) → Asked
  Gen : (number : ℕ) → Asked

abbrev pub init_of : List Row → Option Asked
init_of rows = option_and_then (λ file. option_and_then (λ name. option_map (λ password. Init file name password)
    (first_of (codes "PASSWORD") rows)) (first_of (codes "NAME") rows)) (first_of (codes "FILE") rows)

-- a limit that isn't given is the greatest
abbrev pub limit_in : Option Text → Option ℕ
limit_in None = Some most_length
limit_in (Some text) = number_of most_length text

abbrev pub limit_of : List Row → Option ℕ
limit_of rows = limit_in (first_of (codes "limit") rows)

abbrev pub replay_of : List Row → Option Asked
replay_of rows = option_and_then (λ file. option_map (Replay file) (limit_of rows)) (first_of (codes "FILE") rows)

abbrev pub serial_of : List Row → Option Asked
serial_of rows = option_and_then (λ file. option_map (Serial file) (limit_of rows)) (first_of (codes "FILE") rows)

-- a port has 16 bits, and a number of connections 64
abbrev pub port_of : List Row → Option ℕ
port_of rows = option_and_then (number_of 65535) (first_of (codes "port") rows)

abbrev pub connections_of : List Row → Option ℕ
connections_of rows = option_and_then (number_of greatest_number) (first_of (codes "connections") rows)

abbrev pub above_zero : ℕ → Option ℕ
above_zero n = if nat_lt 0 n then Some n else None

-- one client where no number is given, and sixteen at most
abbrev pub clients_in : Option Text → Option ℕ
clients_in None = Some 1
clients_in (Some text) = option_and_then above_zero (number_of 16 text)

abbrev pub clients_of : List Row → Option ℕ
clients_of rows = clients_in (first_of (codes "clients") rows)

abbrev pub serve_of : List Row → Option Asked
serve_of rows = option_and_then (λ file. option_and_then (λ port. option_and_then (λ connections. option_and_then (λ clients. option_map (λ record_. Serve file port connections clients record_)
    (first_of (codes "record") rows)) (clients_of rows)) (connections_of rows)) (port_of rows)) (first_of (codes "FILE") rows)

abbrev pub check_of : List Row → Option Asked
check_of rows = option_map Check (first_of (codes "FILE") rows)

abbrev pub dump_of : List Row → Option Asked
dump_of rows = option_map Dump (first_of (codes "FILE") rows)

-- a flag that is given has the value "true", and any other "false"
abbrev pub is_given : Text → List Row → Bool
is_given id rows = option_map_or (λ value. bytes_eq value (codes "true")) (first_of id rows) false

-- an index has a line for each piece, whose name begins with the repository's
abbrev pub in_one_line : Text → Option Text
in_one_line repo = if is_one_line repo then Some repo else None

abbrev pub repo_of : List Row → Option Text
repo_of rows = option_and_then in_one_line (first_of (codes "REPO") rows)

-- a repository's own index isn't backed up in it
abbrev pub backup_in : List Row → Text → Text → Option Asked
backup_in rows file repo = if is_index_of repo file then None else Some (Backup file repo (is_given (codes "full") rows))

abbrev pub backup_of : List Row → Option Asked
backup_of rows = option_and_then (λ file. option_and_then (backup_in rows file) (repo_of rows)) (first_of (codes "FILE") rows)

abbrev pub restore_of : List Row → Option Asked
restore_of rows = option_and_then (λ repo. option_map (Restore repo) (first_of (codes "OUT") rows)) (repo_of rows)

abbrev pub pack_tid : List Row → Option ℕ
pack_tid rows = option_and_then tid_of (first_of (codes "TID") rows)

abbrev pub pack_of : List Row → Option Asked
pack_of rows = option_and_then (λ file. option_map (Pack file) (pack_tid rows)) (first_of (codes "FILE") rows)

-- the number has 64 bits
abbrev pub drawn_number : List Row → Option ℕ
drawn_number rows = option_and_then (number_of greatest_number) (first_of (codes "N") rows)

abbrev pub gen_of : List Row → Option Asked
gen_of rows = option_map Gen (drawn_number rows)

abbrev pub by_name : Text → List Row → Option Asked
by_name name rows =
    if bytes_eq name (codes "init") then init_of rows
    else (if bytes_eq name (codes "replay") then replay_of rows
    else (if bytes_eq name (codes "serve") then serve_of rows
    else (if bytes_eq name (codes "check") then check_of rows
    else (if bytes_eq name (codes "dump") then dump_of rows
    else (if bytes_eq name (codes "backup") then backup_of rows
    else (if bytes_eq name (codes "restore") then restore_of rows
    else (if bytes_eq name (codes "pack") then pack_of rows
    else (if bytes_eq name (codes "serial") then serial_of rows
    else (if bytes_eq name (codes "gen") then gen_of rows else None)))))))))

unfoldable pub by_subcommand : Option (Text × List Row) → Option Asked
by_subcommand found = option_and_then (λ p. by_name p.0 p.1) found

-- none where clap's definition refuses the words, or where a number, an id or a repository's name breaks its rule
abbrev pub asked_of : List Text → Option Asked
asked_of words = if length (fault_of zope words) == 0 then by_subcommand (subcommand_of zope words) else None
