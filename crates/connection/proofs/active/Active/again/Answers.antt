use Rattle.std.proofs.Common.{◌≡◌, ◌∷◌, ◌++◌, [], length, refl}
use Rattle.connection.specs.States.{ActiveView}
use Rattle.connection.proofs.active.Active.again.Goals as goal

pub returns-in-Three-clause-refused : goal.returns-in-Three-clause-refused
returns-in-Three-clause-refused g c = λ old new d why.
    let three : length (let a : ActiveView _ = c.args.self in a).attempt.clashes ≡ 3 = rw (← c.self.view_is, c.in-Three.is) refl in
    let all : c.in-Three.a ∷ c.in-Three.b ∷ c.in-Three.c ∷ c.args.clash ∷ [] ≡ (let a : ActiveView _ = c.args.self in a).attempt.clashes ++ c.args.clash ∷ [] = rw (← c.self.view_is, c.in-Three.is) refl in
    (c.args.clash, three, all, why)
