use Rattle.std.proofs.Common.{inl, inr, refl, subst, sym}
use Rattle.std.specs.Prelude.{IfErr}
use Rattle.zbase.specs.Faults.{counts_as}
use Rattle.replay.specs.Held.{TellsFile}
use Rattle.replay.specs.Refusals.{IsOfPrinting}
use Rattle.replay.proofs.LineRefusals.{of_printing, outside_counts}
use Rattle.replay.proofs.PackMaking.{said_so, whole_told}
use Rattle.replay.proofs.pack.pack_bytes.Goals as goal

pub make_pack-requires-clause-file : goal.make_pack-requires-clause-file
make_pack-requires-clause-file g c = (c.args.core.store.history, whole_told _ c.args.bytes c.args.core.store c.new-from.ensures.told c.requires.whole)

pub put_packed-requires-clause-file : goal.put_packed-requires-clause-file
put_packed-requires-clause-file g c =
    let h = c.args.core.store.history in
    (h, subst (λ d. TellsFile d h) (sym c.make_pack.ensures.same) (whole_told _ c.args.bytes c.args.core.store c.new-from.ensures.told c.requires.whole))

pub replace-requires-clause-unarmed : goal.replace-requires-clause-unarmed
replace-requires-clause-unarmed g c = (c.in-Ok.ensures.made c.args.core.store.history (whole_told _ c.args.bytes c.args.core.store c.new-from.ensures.told c.requires.whole)).unarmed.queue

pub replace-requires-clause-unhit : goal.replace-requires-clause-unhit
replace-requires-clause-unhit g c = (c.in-Ok.ensures.made c.args.core.store.history (whole_told _ c.args.bytes c.args.core.store c.new-from.ensures.told c.requires.whole)).unarmed.hits

pub replace-requires-clause-new_running : goal.replace-requires-clause-new_running
replace-requires-clause-new_running g c = (c.in-Ok.ensures.made c.args.core.store.history (whole_told _ c.args.bytes c.args.core.store c.new-from.ensures.told c.requires.whole)).unarmed.stopped

pub replace-requires-clause-idle : goal.replace-requires-clause-idle
replace-requires-clause-idle g c = (c.in-Ok.ensures.made c.args.core.store.history (whole_told _ c.args.bytes c.args.core.store c.new-from.ensures.told c.requires.whole)).stands.idle

pub returns-in-Ok-clause-packed : goal.returns-in-Ok-clause-packed
returns-in-Ok-clause-packed g c =
    let h = c.args.core.store.history in
    let file = whole_told _ c.args.bytes c.args.core.store c.new-from.ensures.told c.requires.whole in
    inl (record {
      store = c.in-Ok.made.store;
      floor = c.in-Ok.made.floor;
      count = c.in-Ok.made.count;
      packed = c.in-Ok.ensures.made h file;
      goes_on = c.replace.ensures.store;
      told = c.replace.ensures.told;
      taken = c.replace.ensures.taken;
      slots = c.replace.ensures.slots;
      printed = c.in-Ok-put_packed.ensures.ok h (subst (λ d. TellsFile d h) (sym c.make_pack.ensures.same) file);
    })

pub returns-clause-packed : goal.returns-clause-packed
returns-clause-packed g c =
    let h = c.args.core.store.history in
    let file = whole_told _ c.args.bytes c.args.core.store c.new-from.ensures.told c.requires.whole in
    said_so c.say.result c.args.core _ _ c.say.ensures.same c.say.ensures.printed
    (λ printed. inr (record { same = refl; why = c.in-Err.why; is = c.in-Err.ensures.refused h file; printed = (rw c.unmade_line.ensures at printed) }))

pub returns-in-Ok-clause-counts : goal.returns-in-Ok-clause-counts
returns-in-Ok-clause-counts g c = counts_as c.in-Ok-put_packed.ensures.counts (λ e. cc) (λ e. cc)

pub returns-in-Err-put_packed-clause-refused : goal.returns-in-Err-put_packed-clause-refused
returns-in-Err-put_packed-clause-refused g c = subst (λ r. IfErr r IsOfPrinting) (sym c.broken_off.ensures) (of_printing c.from.result c.in-Err-put_packed.refusal c.from.ensures)

pub returns-in-Err-put_packed-clause-counts : goal.returns-in-Err-put_packed-clause-counts
returns-in-Err-put_packed-clause-counts g c = outside_counts _ _ c.put_packed.result c.broken_off.result c.in-Err-put_packed.refusal c.from.result c.in-Err-put_packed.is c.broken_off.ensures c.from.ensures c.put_packed.ensures.counts
