-- Command lines, by computing.
use Rattle.std.specs.Prelude.{◌≡◌, [], ◌∷◌, Some, None, codes, false, refl, true}
use Rattle.clap.proofs.OnLiterals.{clap_on_literals}
use Rattle.zbase.specs.Hex.{hex16_text, hex_digits}
use Rattle.words.specs.Asking.{Init, Replay, Serve, Backup, Restore, Pack, Serial, Gen, asked_of, by_subcommand}

init_is : asked_of (codes "init" ∷ codes "f" ∷ codes "admin" ∷ codes "secret" ∷ []) ≡ Some (Init (codes "f") (codes "admin") (codes "secret"))
unfolding clap_on_literals by_subcommand
init_is = refl

replay_is : asked_of (codes "replay" ∷ codes "f" ∷ []) ≡ Some (Replay (codes "f") 281474976710655)
unfolding clap_on_literals by_subcommand
replay_is = refl

limit_first : asked_of (codes "replay" ∷ codes "--limit=7" ∷ codes "f" ∷ []) ≡ Some (Replay (codes "f") 7)
unfolding clap_on_literals by_subcommand
limit_first = refl

too_great : asked_of (codes "replay" ∷ codes "f" ∷ codes "--limit" ∷ codes "281474976710656" ∷ []) ≡ None
unfolding clap_on_literals by_subcommand
too_great = refl

serial_is : asked_of (codes "serial" ∷ codes "f" ∷ []) ≡ Some (Serial (codes "f") 281474976710655)
unfolding clap_on_literals by_subcommand
serial_is = refl

serial_limited : asked_of (codes "serial" ∷ codes "f" ∷ codes "--limit" ∷ codes "300" ∷ []) ≡ Some (Serial (codes "f") 300)
unfolding clap_on_literals by_subcommand
serial_limited = refl

gen_is : asked_of (codes "gen" ∷ codes "18446744073709551615" ∷ []) ≡ Some (Gen 18446744073709551615)
unfolding clap_on_literals by_subcommand
gen_is = refl

drawn_from_too_much : asked_of (codes "gen" ∷ codes "18446744073709551616" ∷ []) ≡ None
unfolding clap_on_literals by_subcommand
drawn_from_too_much = refl

help_is_no_word : asked_of (codes "--help" ∷ []) ≡ None
unfolding clap_on_literals by_subcommand
help_is_no_word = refl

no_word : asked_of [] ≡ None
unfolding clap_on_literals by_subcommand
no_word = refl

serve_is : asked_of (codes "serve" ∷ codes "f" ∷ codes "--port" ∷ codes "8080" ∷ codes "--connections" ∷ codes "3" ∷ codes "--record" ∷ codes "t" ∷ []) ≡ Some (Serve (codes "f") 8080 3 1 (codes "t"))
unfolding clap_on_literals by_subcommand
serve_is = refl

seventeen_clients : asked_of (codes "serve" ∷ codes "f" ∷ codes "--port=8080" ∷ codes "--connections=3" ∷ codes "--clients=17" ∷ codes "--record=t" ∷ []) ≡ None
unfolding clap_on_literals by_subcommand
seventeen_clients = refl

no_clients : asked_of (codes "serve" ∷ codes "f" ∷ codes "--port=8080" ∷ codes "--connections=3" ∷ codes "--clients=0" ∷ codes "--record=t" ∷ []) ≡ None
unfolding clap_on_literals by_subcommand
no_clients = refl

no_port : asked_of (codes "serve" ∷ codes "f" ∷ codes "--connections=3" ∷ codes "--record=t" ∷ []) ≡ None
unfolding clap_on_literals by_subcommand
no_port = refl

port_too_great : asked_of (codes "serve" ∷ codes "f" ∷ codes "--port=65536" ∷ codes "--connections=3" ∷ codes "--record=t" ∷ []) ≡ None
unfolding clap_on_literals by_subcommand
port_too_great = refl

backup_is : asked_of (codes "backup" ∷ codes "f" ∷ codes "r" ∷ []) ≡ Some (Backup (codes "f") (codes "r") false)
unfolding clap_on_literals by_subcommand
backup_is = refl

full_anywhere : asked_of (codes "backup" ∷ codes "--full" ∷ codes "f" ∷ codes "r" ∷ []) ≡ Some (Backup (codes "f") (codes "r") true)
unfolding clap_on_literals by_subcommand
full_anywhere = refl

full_has_no_value : asked_of (codes "backup" ∷ codes "f" ∷ codes "r" ∷ codes "--full=true" ∷ []) ≡ None
unfolding clap_on_literals by_subcommand
full_has_no_value = refl

full_once : asked_of (codes "backup" ∷ codes "--full" ∷ codes "f" ∷ codes "r" ∷ codes "--full" ∷ []) ≡ None
unfolding clap_on_literals by_subcommand
full_once = refl

own_index : asked_of (codes "backup" ∷ codes "r.dat" ∷ codes "r" ∷ []) ≡ None
unfolding clap_on_literals by_subcommand
own_index = refl

restore_is : asked_of (codes "restore" ∷ codes "r" ∷ codes "f" ∷ []) ≡ Some (Restore (codes "r") (codes "f"))
unfolding clap_on_literals by_subcommand
restore_is = refl

two_lines : asked_of (codes "restore" ∷ (114 ∷ 10 ∷ []) ∷ codes "f" ∷ []) ≡ None
unfolding clap_on_literals by_subcommand
two_lines = refl

pack_is : asked_of (codes "pack" ∷ codes "f" ∷ codes "0331620000000002" ∷ []) ≡ Some (Pack (codes "f") 230072808112128002)
unfolding clap_on_literals by_subcommand hex16_text hex_digits
pack_is = refl

tid_in_capitals : asked_of (codes "pack" ∷ codes "f" ∷ codes "03316200000000AB" ∷ []) ≡ None
unfolding clap_on_literals by_subcommand hex16_text hex_digits
tid_in_capitals = refl

short_tid : asked_of (codes "pack" ∷ codes "f" ∷ codes "331620000000002" ∷ []) ≡ None
unfolding clap_on_literals by_subcommand hex16_text hex_digits
short_tid = refl

no_tid : asked_of (codes "pack" ∷ codes "f" ∷ []) ≡ None
unfolding clap_on_literals by_subcommand
no_tid = refl
