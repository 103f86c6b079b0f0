-- The command, as clap sees it.
use Rattle.std.specs.Prelude.{true, Some, codes}
use Rattle.clap.specs.Words.{App, Rule, Text, new_app, new_rule, with_rule, with_subcommand}
use Rattle.clap.specs.declared.builder.ArgAction.TheVariants.{Set, SetTrue}

-- a word that must stand
abbrev pub positional : Text → Rule
positional id = record (new_rule id) { required = true; action = Some Set }

-- `--ID VALUE`, which may be left out
abbrev pub option : Text → Rule
option id = record (new_rule id) { long = Some id; action = Some Set }

-- `--ID VALUE`, which must stand
abbrev pub needed : Text → Rule
needed id = record (option id) { required = true }

-- `--ID`, which may be left out
abbrev pub flag : Text → Rule
flag id = record (new_rule id) { long = Some id; action = Some SetTrue }

-- a subcommand over a file, with nothing else
abbrev pub over_file : Text → App
over_file name = with_rule (new_app name) (positional (codes "FILE"))

abbrev pub init : App
init = with_rule (with_rule (over_file (codes "init")) (positional (codes "NAME"))) (positional (codes "PASSWORD"))

-- a subcommand that runs a schedule over a file
abbrev pub over_schedule : Text → App
over_schedule name = with_rule (over_file name) (option (codes "limit"))

abbrev pub serve : App
serve = with_rule (with_rule (with_rule (with_rule (over_file (codes "serve")) (needed (codes "port"))) (needed (codes "connections"))) (option (codes "clients"))) (needed (codes "record"))

abbrev pub backup : App
backup = with_rule (with_rule (over_file (codes "backup")) (positional (codes "REPO"))) (flag (codes "full"))

abbrev pub restore : App
restore = with_rule (with_rule (new_app (codes "restore")) (positional (codes "REPO"))) (positional (codes "OUT"))

abbrev pub pack : App
pack = with_rule (over_file (codes "pack")) (positional (codes "TID"))

abbrev pub drawn : App
drawn = with_rule (new_app (codes "gen")) (positional (codes "N"))

-- no help words, no version words, and no word for the program
abbrev pub bare : App
bare = record (new_app (codes "zope")) {
  top = record (new_app (codes "zope")).top { no_binary_name = true; disable_help_flag = true; disable_help_subcommand = true; disable_version_flag = true; subcommand_required = true };
}

-- the commands over a site, and those over a repository, too
abbrev pub over_sites : App
over_sites = with_subcommand (with_subcommand (with_subcommand (with_subcommand (with_subcommand bare init.top) (over_schedule (codes "replay")).top) serve.top) (over_file (codes "check")).top) (over_file (codes "dump")).top

abbrev pub zope : App
zope = with_subcommand (with_subcommand (with_subcommand (with_subcommand (with_subcommand over_sites backup.top) restore.top) pack.top) (over_schedule (codes "serial")).top) drawn.top
