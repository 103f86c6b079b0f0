-- What opens above the frames of a page, and what stands in every place.
use Rattle.std.proofs.Common.{ℕ, ◌≡◌, ◌≤◌, ◌+◌, ◌-◌, ◌∙◌, refl, sym, ap, subst, arith, append_assoc, Bool, List, [], ◌∷◌, ◌++◌, length, reverse, take, map, Option, Some, None, Result, Ok, Err}
use Rattle.std.specs.Prelude.{OnOk}
use Rattle.std.proofs.Math.Seq.{take-append-add}
use Rattle.std.proofs.lemmas.List.{append-nil, length-append, length-reverse, map-append, reverse-append}
use Rattle.permissions.specs.declared.who.Who.{Who}
use Rattle.dtml_parse.specs.Trees as trees
use Rattle.dtml_parse.specs.Trees.{Items}
use Rattle.namespace.specs.declared.val.Layer.{Layer}
use Rattle.namespace.specs.declared.val.Layer.TheVariants as layer
use Rattle.namespace.specs.declared.val.Single.{Single}
use Rattle.namespace.specs.declared.val.Single.TheVariants as single
use Rattle.namespace.specs.Names.{Scope, act}
use Rattle.zobject.specs.declared.object.Part2.{Part2}
use Rattle.zobject.specs.declared.object.Part2.TheVariants as parts
use Rattle.dtml_render.specs.declared.frames.Frame.{Frame as FrameCode}
use Rattle.dtml_render.specs.Frames.{AreNested, IsInside, asked_opening, frame_view, frames_view}
use Rattle.dtml_render.specs.Rendering.{State, item_names, item_scope, pushed_if}
use Rattle.dtml_render.specs.Resuming.{Ask, Asking, Frame, Rest, Turning, Turns, Within, after, after_opening, cut, depth_of, under}
use Rattle.dtml_render.specs.Spots.{ask_frame}
use Rattle.dtml_render.proofs.Stepping.{nested_higher}

-- ---- the innermost frame stands last in the code

pub frames_last : (frames : List FrameCode) (frame : FrameCode) → frames_view (frames ++ frame ∷ []) ≡ frame_view frame ∷ frames_view frames
unfolding frames_view
frames_last frames frame = ap reverse (map-append frame_view frames (frame ∷ [])) ∙ reverse-append (map frame_view frames) (frame_view frame ∷ [])

pub push_so : (old new : List FrameCode) (frame : FrameCode) → new ≡ old ++ frame ∷ [] → frames_view new ≡ frame_view frame ∷ frames_view old
push_so old new frame is = ap frames_view is ∙ frames_last old frame

-- ---- what opened

module _ (scope inner : Scope) (layers : List Layer) (frames new : List Frame) (is_inner : inner ≡ under layers scope) (renders : ℕ) (s : State) where
  pub within_so : (block same : Items) → block ≡ same → new ≡ Rest (length inner.layers) block ∷ frames → after new renders inner s ≡ after_opening (Within layers same s) frames renders scope
  unfolding after_opening
  within_so block same e is =
      ap (λ (fs : List Frame). after fs renders inner s) is
      ∙ ap (λ (c : Scope). after (Rest (length c.layers) block ∷ frames) renders c s) is_inner
      ∙ ap (λ (b : Items). after (Rest (length (under layers scope).layers) b ∷ frames) renders (under layers scope) s) e

  pub asked_so : (a : Option Asking) → new ≡ ask_frame (length inner.layers) a ∷ frames → after new renders inner s ≡ after_opening (asked_opening layers a s) frames renders scope
  unfolding after_opening
  asked_so None is =
      ap (λ (fs : List Frame). after fs renders inner s) is
      ∙ ap (λ (c : Scope). after (Rest (length c.layers) trees.none ∷ frames) renders c s) is_inner
  asked_so (Some a) is =
      ap (λ (fs : List Frame). after fs renders inner s) is
      ∙ ap (λ (c : Scope). after (Ask (length c.layers) a ∷ frames) renders c s) is_inner

pub turning_so : (scope : Scope) (frames new : List Frame) (renders : ℕ) (s : State) (skip : Bool) (items : List Single) (block same : Items) → block ≡ same →
    new ≡ Turns (length scope.layers) skip (length items) 0 (reverse items) block ∷ frames → after new renders scope s ≡ after_opening (Turning skip (reverse items) same s) frames renders scope
unfolding after_opening
turning_so scope frames new renders s skip items block same e is =
    ap (λ (fs : List Frame). after fs renders scope s) is
    ∙ ap (λ (many : ℕ). after (Turns (length scope.layers) skip many 0 (reverse items) block ∷ frames) renders scope s) (sym (length-reverse items))
    ∙ ap (λ (b : Items). after (Turns (length scope.layers) skip (length (reverse items)) 0 (reverse items) b ∷ frames) renders scope s) e

-- ---- layers

pub under_none : (scope : Scope) → under [] scope ≡ scope
under_none scope = ap (λ (layers : List Layer). record scope { layers = layers }) (append-nil scope.layers)

-- a frame more, under the layers that there are
pub nested_more : (low : ℕ) (scope inner : Scope) (layers : List Layer) (frame : Frame) (frames new : List Frame) → inner ≡ under layers scope → depth_of frame ≡ length inner.layers → new ≡ frame ∷ frames →
    AreNested low frames (length scope.layers) → AreNested low new (length inner.layers)
nested_more low scope inner layers frame frames new is_inner deep is nested =
    let long : length inner.layers ≡ length scope.layers + length layers = ap (λ (c : Scope). length c.layers) is_inner ∙ length-append scope.layers layers in
    subst (λ (fs : List Frame). AreNested low fs (length inner.layers)) (sym is)
    (omega (arith, deep), nested_higher low (length scope.layers) (depth_of frame) frames nested (omega (arith, deep, long)))

pub inside_under : (base scope inner : Scope) (layers : List Layer) → inner ≡ under layers scope → IsInside base scope → IsInside base inner
inside_under base scope inner layers is inside =
    (inside.0 ++ layers, inside.1, is ∙ ap (under layers) inside.2 ∙ ap (λ (ls : List Layer). record base { layers = ls; acting = inside.1 }) (append_assoc base.layers inside.0 layers))

pub inside_act : (base scope inner : Scope) (acting : Option Who) → inner ≡ act acting scope → IsInside base scope → IsInside base inner
inside_act base scope inner acting is inside = (inside.0, acting, is ∙ ap (act acting) inside.2)

pub inside_cut : (base scope inner : Scope) (depth : ℕ) → inner ≡ cut depth scope → length base.layers ≤ depth → IsInside base scope → IsInside base inner
inside_cut base scope inner depth is le inside =
    let more : depth ≡ length base.layers + (depth - length base.layers) = omega (arith, le) in (
      take (depth - length base.layers) inside.0,
      inside.1,
      is ∙ ap (cut depth) inside.2 ∙ ap (λ (n : ℕ). record base { layers = take n (base.layers ++ inside.0); acting = inside.1 }) more ∙ ap (λ (ls : List Layer). record base { layers = ls; acting = inside.1 }) (take-append-add base.layers inside.0 (depth - length base.layers)),
    )

-- a document is pushed, or nothing
pub part_layers : (w : List ℕ) (part : Part2) (scope : Scope) → (layers : List Layer) × (pushed_if w part scope ≡ under layers scope)
part_layers w (parts.Document source proxy) scope = (layer.Object w ∷ [], refl)
part_layers w (parts.Method source proxy) scope = ([], sym (under_none scope))
part_layers w (parts.Folder children) scope = ([], sym (under_none scope))
part_layers w (parts.UserFolder users) scope = ([], sym (under_none scope))

-- the layers of an item
pub item_layers : (many i : ℕ) (item : Single) (scope : Scope) → (layers : List Layer) × (item_scope many i item scope ≡ under layers scope)
item_layers many i (single.Obj w) scope =
    (layer.Names (item_names many i (single.Obj w)) ∷ layer.Object w ∷ [], ap (λ (ls : List Layer). record scope { layers = ls }) (append_assoc scope.layers (layer.Names (item_names many i (single.Obj w)) ∷ []) (layer.Object w ∷ [])))
item_layers many i (single.Text t) scope = (layer.Names (item_names many i (single.Text t)) ∷ [], refl)
item_layers many i (single.Int n) scope = (layer.Names (item_names many i (single.Int n)) ∷ [], refl)

-- ---- what stands behind a value

pub on_ok : {X E : Type 0} (P Q : Type 0) (r : Result X E) → (P → Q) → OnOk r P → OnOk r Q
on_ok P Q (Ok x) so is = so is
on_ok P Q (Err e) so is = tt

pub ask_deep : (n : ℕ) (a : Option Asking) → depth_of (ask_frame n a) ≡ n
ask_deep n None = refl
ask_deep n (Some a) = refl
