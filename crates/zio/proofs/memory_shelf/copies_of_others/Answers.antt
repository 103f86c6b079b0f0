use Rattle.std.proofs.Common.{rules, ◌≡◌, ◌<◌, ◌++◌, [], ◌∷◌, get_or, length}
use Rattle.zio.specs.Shelves.{is_other}
use Rattle.zio.proofs.Shelves.{copied_one, passed_one, sound_one}
use Rattle.zio.proofs.memory_shelf.copies_of_others.Goals as goal
use Rattle.zio.proofs.memory_shelf.copies_of_others.Goals.{then-is_other+in_ok-copy_as+in_ok-push, else-is_other}

pub loop-file-preserved : goal.loop-file-preserved
loop-file-preserved c =
    let files = c.args.files.now in
    let i = c.loop-file.file-index in
    let file = c.file-item.result in
    let p = is_other c.args.one.now c.args.two.now in
    let within : i < length files = search rules in
    let is : get_or files i file ≡ file = search rules in
    elim c.if-is_other.branch [
      | then-is_other+in_ok-copy_as+in_ok-push w ↦
          let pushed : w.push.new.self.items ≡ c.loop-file.others.items ++ w.in_ok-copy_as.field-0 ∷ [] = search rules in
          rw (w.others-is, pushed) (
            copied_one p files c.loop-file.others.items i file w.in_ok-copy_as.field-0 within is (search rules) (search rules) c.loop-file.invariant.0,
            λ all. sound_one files c.loop-file.others.items i file w.in_ok-copy_as.field-0 within is (search rules) (c.loop-file.invariant.1 all) all,
          )
      | else-is_other w ↦
          rw w.others-is (
            passed_one p files c.loop-file.others.items i file within is (search rules) c.loop-file.invariant.0,
            c.loop-file.invariant.1,
          )
    ]
