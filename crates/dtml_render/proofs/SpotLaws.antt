-- Nodes, blocks and arguments by their numbers.
use Rattle.std.proofs.Common.{ℕ, zero, suc, ◌≡◌, ◌∙◌, ◌<◌, ◌≤◌, refl, sym, ap, List, [], ◌∷◌, ◌++◌, length, drop, get_or, Option, Some, None, arith}
use Rattle.dtml_parse.specs.Trees as trees
use Rattle.dtml_parse.specs.Trees.{Arms, Bound, Item, Items, Otherwise}
use Rattle.dtml_parse.specs.Views.{arg_view, arm_list_view, bound_view, bounds_view, list_view, node_view, view}
use Rattle.dtml_parse.specs.declared.tree.Arm.{Arm}
use Rattle.dtml_parse.specs.declared.tree.Binding.{Binding}
use Rattle.dtml_parse.specs.declared.tree.Node.{Node}
use Rattle.dtml_render.specs.Resuming.{ToBind, ToChoose, asking}
use Rattle.dtml_render.specs.Frames.{argument}
use Rattle.dtml_render.specs.Spots.{arm_asking, arm_block, arms_from, block_at, block_under, bound_asking, else_block, items_from, node_at}

-- ---- nodes

pub node_is : (nodes : List Node) (n : ℕ) (node : Node) → n < length nodes → node ≡ get_or nodes n node → Some (node_view node) ≡ node_at n (list_view nodes)
unfolding node_at
node_is [] n node lt is = absurd (omega (arith, lt))
node_is (x ∷ xs) zero node lt is = ap (λ (x : Node). Some (node_view x)) is
node_is (x ∷ xs) (suc n) node lt is = node_is xs n node (omega (arith, lt)) is

pub node_none : (nodes : List Node) (n : ℕ) → length nodes ≤ n → None ≡ node_at n (list_view nodes)
unfolding node_at
node_none [] n le = refl
node_none (x ∷ xs) zero le = absurd (omega (arith, le))
node_none (x ∷ xs) (suc n) le = node_none xs n (omega (arith, le))

-- a block from a node on
pub items_some : (n : ℕ) (block : Items) (item : Item) → node_at n block ≡ Some item → items_from n block ≡ trees.more item (items_from (suc n) block)
unfolding node_at items_from
items_some n trees.none item e = absurd (let bad = e in cc)
items_some zero (trees.more other rest) item e = let same : other ≡ item = cc in ap (λ (i : Item). trees.more i rest) same
items_some (suc n) (trees.more other rest) item e = items_some n rest item e

pub items_none : (n : ℕ) (block : Items) → node_at n block ≡ None → items_from n block ≡ trees.none
unfolding node_at items_from
items_none zero trees.none e = refl
items_none (suc n) trees.none e = refl
items_none zero (trees.more other rest) e = absurd (let bad = e in cc)
items_none (suc n) (trees.more other rest) e = items_none n rest e

pub way_longer : (way : List (ℕ × ℕ)) (n part : ℕ) (block : Items) → block_at (way ++ (n, part) ∷ []) block ≡ block_under part (node_at n (block_at way block))
unfolding block_at
way_longer [] n part block = refl
way_longer (step ∷ way) n part block = way_longer way n part (block_under step.1 (node_at step.0 block))

-- ---- arms

pub arm_is : (arms : List Arm) (otherwise : Otherwise) (n : ℕ) (one : Arm) → n < length arms → one ≡ get_or arms n one → arm_block n (arm_list_view arms) otherwise ≡ view one.block
arm_is [] otherwise n one lt is = absurd (omega (arith, lt))
arm_is (x ∷ xs) otherwise zero one lt is = ap (λ (x : Arm). view x.block) (sym is)
arm_is (x ∷ xs) otherwise (suc n) one lt is = arm_is xs otherwise n one (omega (arith, lt)) is

pub arm_none : (arms : List Arm) (otherwise : Otherwise) (n : ℕ) → length arms ≤ n → arm_block n (arm_list_view arms) otherwise ≡ else_block otherwise
arm_none [] otherwise n le = refl
arm_none (x ∷ xs) otherwise zero le = absurd (omega (arith, le))
arm_none (x ∷ xs) otherwise (suc n) le = arm_none xs otherwise n (omega (arith, le))

pub arm_asks : (arms : List Arm) (otherwise : Otherwise) (n : ℕ) (one : Arm) → n < length arms → one ≡ get_or arms n one →
    arm_asking n (arm_list_view arms) otherwise ≡ Some (asking one.at (arg_view one.arg) (ToChoose (view one.block) (arms_from (suc n) (arm_list_view arms)) otherwise))
arm_asks [] otherwise n one lt is = absurd (omega (arith, lt))
arm_asks (x ∷ xs) otherwise zero one lt is = ap (λ (x : Arm). Some (asking x.at (arg_view x.arg) (ToChoose (view x.block) (arm_list_view xs) otherwise))) (sym is)
arm_asks (x ∷ xs) otherwise (suc n) one lt is = arm_asks xs otherwise n one (omega (arith, lt)) is

pub arm_asks_none : (arms : List Arm) (otherwise : Otherwise) (n : ℕ) → length arms ≤ n → arm_asking n (arm_list_view arms) otherwise ≡ None
arm_asks_none [] otherwise n le = refl
arm_asks_none (x ∷ xs) otherwise zero le = absurd (omega (arith, le))
arm_asks_none (x ∷ xs) otherwise (suc n) le = arm_asks_none xs otherwise n (omega (arith, le))

-- the arms from a place on
pub arms_some : (arms : List Arm) (n : ℕ) (one : Arm) → n < length arms → one ≡ get_or arms n one → arms_from n (arm_list_view arms) ≡ trees.arm one.at (arg_view one.arg) (view one.block) (arms_from (suc n) (arm_list_view arms))
arms_some [] n one lt is = absurd (omega (arith, lt))
arms_some (x ∷ xs) zero one lt is = ap (λ (x : Arm). trees.arm x.at (arg_view x.arg) (view x.block) (arm_list_view xs)) (sym is)
arms_some (x ∷ xs) (suc n) one lt is = arms_some xs n one (omega (arith, lt)) is

pub arms_none : (arms : List Arm) (n : ℕ) → length arms ≤ n → arms_from n (arm_list_view arms) ≡ trees.last
arms_none [] zero le = refl
arms_none [] (suc n) le = refl
arms_none (x ∷ xs) zero le = absurd (omega (arith, le))
arms_none (x ∷ xs) (suc n) le = arms_none xs n (omega (arith, le))

-- ---- bindings

pub bound_asks : (bindings : List Binding) (at : ℕ) (block : Items) (n : ℕ) (one : Binding) → n < length bindings → one ≡ get_or bindings n one →
    bound_asking n at (bounds_view bindings) block ≡ Some (asking at (arg_view one.arg) (ToBind at one.name (arg_view one.arg) (drop (suc n) (bounds_view bindings)) block))
bound_asks [] at block n one lt is = absurd (omega (arith, lt))
bound_asks (x ∷ xs) at block zero one lt is = ap (λ (x : Binding). Some (asking at (arg_view x.arg) (ToBind at x.name (arg_view x.arg) (bounds_view xs) block))) (sym is)
bound_asks (x ∷ xs) at block (suc n) one lt is = bound_asks xs at block n one (omega (arith, lt)) is

pub bound_asks_none : (bindings : List Binding) (at : ℕ) (block : Items) (n : ℕ) → length bindings ≤ n → bound_asking n at (bounds_view bindings) block ≡ None
bound_asks_none [] at block n le = refl
bound_asks_none (x ∷ xs) at block zero le = absurd (omega (arith, le))
bound_asks_none (x ∷ xs) at block (suc n) le = bound_asks_none xs at block n (omega (arith, le))

-- the bindings from a place on
pub bounds_some : (bindings : List Binding) (n : ℕ) (one : Binding) → n < length bindings → one ≡ get_or bindings n one → drop n (bounds_view bindings) ≡ bound_view one ∷ drop (suc n) (bounds_view bindings)
bounds_some [] n one lt is = absurd (omega (arith, lt))
bounds_some (x ∷ xs) zero one lt is = ap (λ (x : Binding). bound_view x ∷ bounds_view xs) (sym is)
bounds_some (x ∷ xs) (suc n) one lt is = bounds_some xs n one (omega (arith, lt)) is

pub bounds_none : (bindings : List Binding) (n : ℕ) → length bindings ≤ n → drop n (bounds_view bindings) ≡ []
bounds_none [] zero le = refl
bounds_none [] (suc n) le = refl
bounds_none (x ∷ xs) zero le = absurd (omega (arith, le))
bounds_none (x ∷ xs) (suc n) le = bounds_none xs n (omega (arith, le))

-- ---- as the code finds them

pub arm_argument : (arms : List Arm) (n : ℕ) (one : Arm) (otherwise : Otherwise) → n < length arms → one ≡ get_or arms n one → Some (one.at, arg_view one.arg) ≡ argument (arm_asking n (arm_list_view arms) otherwise)
arm_argument arms n one otherwise lt is = sym (ap argument (arm_asks arms otherwise n one lt is))

pub arm_argument_none : (arms : List Arm) (n : ℕ) (otherwise : Otherwise) → length arms ≤ n → None ≡ argument (arm_asking n (arm_list_view arms) otherwise)
arm_argument_none arms n otherwise le = sym (ap argument (arm_asks_none arms otherwise n le))

pub bound_argument : (bindings : List Binding) (at n : ℕ) (one : Binding) (block : Items) → n < length bindings → one ≡ get_or bindings n one → Some (at, arg_view one.arg) ≡ argument (bound_asking n at (bounds_view bindings) block)
bound_argument bindings at n one block lt is = sym (ap argument (bound_asks bindings at block n one lt is))

pub bound_argument_none : (bindings : List Binding) (at n : ℕ) (block : Items) → length bindings ≤ n → None ≡ argument (bound_asking n at (bounds_view bindings) block)
bound_argument_none bindings at n block le = sym (ap argument (bound_asks_none bindings at block n le))

-- a step on a way
pub way_next : (left others : List (ℕ × ℕ)) (step : ℕ × ℕ) (block inner whole : Items) (at : Option Item) → left ≡ step ∷ others → at ≡ node_at step.0 block → inner ≡ block_under step.1 at → block_at left block ≡ whole → block_at others inner ≡ whole
unfolding block_at
way_next left others step block inner whole at is found e all =
    ap (block_at others) (e ∙ ap (block_under step.1) found) ∙ ap (λ (way : List (ℕ × ℕ)). block_at way block) (sym is) ∙ all

pub way_done : (left : List (ℕ × ℕ)) (block whole : Items) → left ≡ [] → block_at left block ≡ whole → block ≡ whole
unfolding block_at
way_done left block whole is all = ap (λ (way : List (ℕ × ℕ)). block_at way block) (sym is) ∙ all

pub inner_so : (way longer : List (ℕ × ℕ)) (n part : ℕ) (block copy : Items) → longer ≡ way ++ (n, part) ∷ [] → copy ≡ block → block_at longer copy ≡ block_under part (node_at n (block_at way block))
inner_so way longer n part block copy is same = ap (λ (b : Items). block_at longer b) same ∙ ap (λ (w : List (ℕ × ℕ)). block_at w block) is ∙ way_longer way n part block
