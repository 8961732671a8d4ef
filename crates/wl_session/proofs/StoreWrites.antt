-- A store write that leaves busy buffers alone hides nothing.
use Rattle.std.proofs.Common.{◌≡◌, ℕ, zero, suc, ◌<◌, Bool, true, false, List, [], ◌∷◌, ◌++◌, Option, Some, None, refl, ap, sym, subst, ◌∙◌, arith, pos, negsuc, inl, inr}
use Rattle.std.specs.Prelude.{◌*◌, ◌/◌, ℤ, ◌-ℤ◌, ◌==◌, ◌&&◌, ◌||◌, nat_lt, unsigned_abs, flat_map, find, cond, not, ◌⊎◌}
use Rattle.std.specs.List.{list_any}
use Rattle.std.specs.Option.{option_map}
use Rattle.std.proofs.lemmas.Int.{ints}
use Rattle.std.proofs.Math.Nat.{div-zero}
use Rattle.wl_geom.specs.Rect.{in_span}
use Rattle.wl_store.specs.declared.color.Argb.{Argb}
use Rattle.wl_store.specs.Transform.{buffer_point, is_turned, scaled, transform_of}
use Rattle.wl_store.specs.declared.transform.Transform.{Transform}
use Rattle.wl_store.proofs.Points.{scaled-below}
use Rattle.wl_store.specs.declared.transform.Transform.TheVariants.{Normal, Rotated90, Rotated180, Rotated270, Flipped, Flipped90, Flipped180, Flipped270}
use Rattle.wl_surface.specs.Request.{Buffer}
use Rattle.wl_surface.specs.State.{History, applied}
use Rattle.wl_surface.specs.Surface.{Surface, listed}
use Rattle.wl_surface.specs.Surfaces.{Surfaces, history_in}
use Rattle.spec_desktop.specs.Stacking.{Owned, nothing_owned}
use Rattle.spec_desktop.specs.Windows.{Window, contains}
use Rattle.std.proofs.lemmas.Bool.{eqb-false, eqb-true, false_from_ne_true}
use Rattle.spec_desktop.specs.Peer.{Peer, stored_at}
use Rattle.spec_desktop.specs.Desktop.{Desktop, Resident, Showing, client_at, owned_in, owned_of, with_client}
use Rattle.spec_desktop.specs.Stacked.{all_windows}
use Rattle.spec_desktop.specs.Step.{with_peer}
use Rattle.law_desktop.proofs.Runs.Forms.{ChangesAt}
use Rattle.spec_desktop.specs.Scratch.{bytes_now, color_in, pixel_at}
use Rattle.law_desktop.proofs.Runs.Places.{number-other, number-same}
use Rattle.law_desktop.proofs.Marks.Stacks.{Fields, fields}
use Rattle.law_desktop.proofs.Marks.Painted.{each-kept}
use Rattle.law_desktop.proofs.Runs.Following.{Owns}
use Rattle.law_desktop.proofs.Marks.ShownWindows.{IsShown, all-shown}
use Rattle.law_desktop.proofs.Truth.{and-left, and-right, differ, or-left, or-right}
use Rattle.law_desktop.proofs.Lists.Each.{Each, each-map}
use Rattle.spec_desktop.specs.Marks.{has_same_record}
use Rattle.spec_desktop.specs.declared.answers.Done.{Done}
use Rattle.spec_desktop.specs.declared.answers.Done.TheVariants as gave
use Rattle.spec_desktop.specs.declared.answers.Stored.TheVariants as stored
use Rattle.wl_session.specs.Promises.{KeepsBuffers, KeepsDamage, busy_of, bytes_by, bytes_in, is_hidden_in, is_rewritten_at, is_same_color, windows_by}
use Rattle.wl_session.specs.StoreWrites.{WriteHidesNothing}
use Rattle.spec_desktop.specs.Act.{IsStored}

-- ---- a point of a window is one of its buffer

point-within : (t : Transform) (w h i j bw bh : ℕ) → w ≡ cond (is_turned t) bh bw → h ≡ cond (is_turned t) bw bh → i < w → j < h → ((buffer_point t w h i j).0 < bw) × ((buffer_point t w h i j).1 < bh)
point-within Normal w h i j bw bh a b c d = (omega (arith, a, c), omega (arith, b, d))
point-within Rotated90 w h i j bw bh a b c d = (omega (arith, b, d), omega (arith, a, c))
point-within Rotated180 w h i j bw bh a b c d = (omega (arith, a, c), omega (arith, b, d))
point-within Rotated270 w h i j bw bh a b c d = (omega (arith, b, d), omega (arith, a, c))
point-within Flipped w h i j bw bh a b c d = (omega (arith, a, c), omega (arith, b, d))
point-within Flipped90 w h i j bw bh a b c d = (omega (arith, b, d), omega (arith, a, c))
point-within Flipped180 w h i j bw bh a b c d = (omega (arith, a, c), omega (arith, b, d))
point-within Flipped270 w h i j bw bh a b c d = (omega (arith, b, d), omega (arith, a, c))

-- a coordinate of the surface, times the scale, lies within the buffer
scaled-within : (i scale n : ℕ) → i < n / scale → i * scale < n
scaled-within i zero n less = let none : i < 0 = subst (λ q. i < q) (div-zero n) less in omega (arith, none)
scaled-within i (suc scale) n less = scaled-below i n (suc scale) (omega arith) less

-- how far a point of a span is from its start
far-within : (at start : ℤ) (n : ℕ) (d : ℤ) → (at -ℤ start) ≡ d → in_span start (pos n) at ≡ true → unsigned_abs d < n
far-within at start n (pos k) e f = grind (arith, ints)
far-within at start n (negsuc k) e f = grind (arith, ints)

-- ---- what a client owns after a store write

pub put : (k c : ℕ) (r : Resident) (q : Peer) (old : Desktop) (same : Bool) → (k == c) ≡ same → client_at k old ≡ Some r → Owns c old (with_client k (Some (with_peer q r)) old)
put k c r q old true e there =
    let now : owned_in (with_client k (Some (with_peer q r)) old) k ≡ owned_in old k = ap owned_of (number-same old.clients k (Some (with_peer q r)) r there) ∙ sym (ap owned_of there) in
    inl (subst (λ n. owned_in (with_client k (Some (with_peer q r)) old) n ≡ owned_in old n) (eqb-true k c e) now)
put k c r q old false e there = inl (ap owned_of (number-other old.clients k c (Some (with_peer q r)) (λ same. eqb-false k c e same)))

put-after : (k store at c : ℕ) (bytes : List ℕ) (r : Resident) (old new : Desktop) (done : Done) → client_at k old ≡ Some r
    → ChangesAt (IsStored store at bytes) (gave.Store stored.NoClient) k (Some r) old done new → Owns c old new
put-after k store at c bytes r old new done e (Some q, h, becomes) = subst (λ (d : Desktop). Owns c old d) (sym becomes) (put k c r q old (k == c) refl e)
put-after k store at c bytes r old new done e (None, h, becomes) = absurd (nothing-put (stored_at r.peer.status store at bytes r.peer) h.0) where
  nothing-put : (q : Peer) → None ≡ Some q → ⊥
  nothing-put q f = absurd (cc)

owned-after : (k store at c : ℕ) (bytes : List ℕ) (client : Option Resident) (old new : Desktop) (done : Done) → client_at k old ≡ client
    → ChangesAt (IsStored store at bytes) (gave.Store stored.NoClient) k client old done new → Owns c old new
owned-after k store at c bytes None old new done e h = subst (λ (d : Desktop). Owns c old d) (sym h.1) (inl refl)
owned-after k store at c bytes (Some r) old new done e h = put-after k store at c bytes r old new done e h

-- ---- one buffer before and after

abbrev value-in : {X : Type 0} → X → Option X → X
value-in d None = d
value-in d (Some x) = x

same-buffer : (before after : ℕ → Owned) (w v : Window) → Fields w v → (after v.owner.client).surfaces ≡ (before v.owner.client).surfaces → IsShown before w → IsShown after v → w.buffer ≡ v.buffer
same-buffer before after w v f same s t =
    let there : history_in v.surface (before v.owner.client).surfaces ≡ Some s.0 = subst (λ n. history_in n (before v.owner.client).surfaces ≡ Some s.0) f.surface
    (subst (λ n. history_in w.surface (before n).surfaces ≡ Some s.0) f.client s.1) in
    let here : history_in v.surface (before v.owner.client).surfaces ≡ Some t.0 = subst (λ (a : Surfaces). history_in v.surface a ≡ Some t.0) same t.1 in
    let histories : s.0 ≡ t.0 = ap (value-in s.0) (sym there ∙ here) in
    let buffers : Some w.buffer ≡ Some v.buffer = sym s.2 ∙ ap (λ (h : History). (applied h).buffer) histories ∙ t.2 in
    ap (value-in w.buffer) buffers

abbrev point_at : Window → ℤ → ℤ → ℕ × ℕ
point_at w x y = scaled w.scale (buffer_point (transform_of w.transform) w.width w.height (unsigned_abs (x -ℤ w.corner.x)) (unsigned_abs (y -ℤ w.corner.y)))

bytes-same : (w : Window) (r : Option Resident) → bytes_now w r ≡ bytes_by w.buffer.store r
bytes-same w None = refl
bytes-same w (Some r) = refl

points-same : (x y : ℤ) (s s' t t' width width' height height' : ℕ) (cx cx' cy cy' : ℤ) → s ≡ s' → t ≡ t' → width ≡ width' → height ≡ height' → cx ≡ cx' → cy ≡ cy'
    → scaled s (buffer_point (transform_of t) width height (unsigned_abs (x -ℤ cx)) (unsigned_abs (y -ℤ cy)))
    ≡ scaled s' (buffer_point (transform_of t') width' height' (unsigned_abs (x -ℤ cx')) (unsigned_abs (y -ℤ cy')))
points-same x y s s' t t' width width' height height' cx cx' cy cy' z a b c d e = rw (z, a, b, c, d, e) refl

color-is : (d : Desktop) (w v : Window) (x y : ℤ) → Fields w v → w.buffer ≡ v.buffer → color_in d w x y ≡ pixel_at (bytes_in d v.owner.client v.buffer.store) v.buffer (point_at v x y)
color-is d w v x y f b =
    ap (λ (bytes : List ℕ). pixel_at bytes w.buffer (point_at w x y)) (bytes-same w (client_at w.owner.client d))
    ∙ ap (λ c. pixel_at (bytes_in d c w.buffer.store) w.buffer (point_at w x y)) f.client
    ∙ ap (λ (a : Buffer). pixel_at (bytes_in d v.owner.client a.store) a (point_at w x y)) b
    ∙ ap (λ (p : ℕ × ℕ). pixel_at (bytes_in d v.owner.client v.buffer.store) v.buffer p) (points-same x y w.scale v.scale w.transform v.transform w.width v.width w.height v.height
    w.corner.x v.corner.x w.corner.y v.corner.y f.scale f.transform f.width f.height f.x f.y)

-- ---- a busy buffer keeps its colours

any-second : {X : Type 0} (p : X → Bool) (xs ys : List X) → list_any p (xs ++ ys) ≡ false → list_any p ys ≡ false
any-second p [] ys e = e
any-second p (x ∷ xs) ys e = any-second p xs ys (or-right (p x) (list_any p (xs ++ ys)) e)

pub any-first : {X : Type 0} (p : X → Bool) (xs ys : List X) → list_any p (xs ++ ys) ≡ false → list_any p xs ≡ false
any-first p [] ys e = refl
any-first p (x ∷ xs) ys e = go (p x) (or-left (p x) (list_any p (xs ++ ys)) e) (any-first p xs ys (or-right (p x) (list_any p (xs ++ ys)) e)) where
  go : (b : Bool) → b ≡ false → list_any p xs ≡ false → (b || list_any p xs) ≡ false
  go true f g = absurd (differ (sym f))
  go false f g = g

found-none : (p : Buffer → Bool) (ss : List Surface) (t : Surface → Bool) (h : History) (b : Buffer) → list_any p (flat_map busy_of ss) ≡ false
    → option_map (λ (s : Surface). s.history) (find t ss) ≡ Some h → (applied h).buffer ≡ Some b → p b ≡ false
found-none p [] t h b e f g = absurd (cc)
found-none p (s ∷ ss) t h b e f g = go (t s) f (found-none p ss t h b (any-second p (busy_of s) (flat_map busy_of ss) e)) where
  go : (same : Bool) → option_map (λ (z : Surface). z.history) (cond same (Some s) (find t ss)) ≡ Some h → (option_map (λ (z : Surface). z.history) (find t ss) ≡ Some h → (applied h).buffer ≡ Some b
      → p b ≡ false) → p b ≡ false
  go true i next =
      let same : s.history ≡ h = ap (value-in h) i in
      let one : (applied s.history).buffer ≡ Some b = ap (λ (z : History). (applied z).buffer) same ∙ g in
      let none : list_any p (listed (applied s.history).buffer) ≡ false = any-first p (listed (applied s.history).buffer) _ (any-first p (busy_of s) (flat_map busy_of ss) e) in
      or-left (p b) false (subst (λ (o : Option Buffer). list_any p (listed o) ≡ false) one none)
  go false i next = next i g

fits : (a b : ℕ) → a < b → nat_lt a b ≡ true
fits a b less = grind (arith)

not-rewritten : (a b same : Bool) → ((a && b) && not same) ≡ false → a ≡ true → b ≡ true → same ≡ true
not-rewritten true true true e f g = refl
not-rewritten true true false e f g = absurd (differ (sym e))
not-rewritten false b same e f g = absurd (differ f)
not-rewritten true false same e f g = absurd (differ g)

self : (v : Window) → Fields v v
self v = record { client = refl; surface = refl; x = refl; y = refl; width = refl; height = refl; transform = refl; scale = refl }

nothing-shown : (v : Window) (o : Owned) (h : History) → o ≡ nothing_owned → history_in v.surface o.surfaces ≡ Some h → ⊥
nothing-shown v o h e f = none (subst (λ (a : Owned). history_in v.surface a.surfaces ≡ Some h) e f) where
  none : history_in v.surface nothing_owned.surfaces ≡ Some h → ⊥
  none g = absurd (cc)

-- A client's surfaces stay, with the colours of their busy buffers; or it has none.
abbrev pub IsKept : ℕ → Desktop → Desktop → Type 0
IsKept c old new = (((owned_in new c).surfaces ≡ (owned_in old c).surfaces) × KeepsBuffers old new c) ⊎ (owned_in new c ≡ nothing_owned)

pub kept-by : (c : ℕ) (old new : Desktop) → Owns c old new → KeepsBuffers old new c → IsKept c old new
kept-by c old new (inl e) keeps = inl (ap (λ (o : Owned). o.surfaces) e, keeps)
kept-by c old new (inr e) keeps = inr e

-- a window that kept its record shows the colour that it did
same-colors : (old new : Desktop) (x y : ℤ) (w v : Window) → KeepsBuffers old new v.owner.client → Fields w v → w.buffer ≡ v.buffer → IsShown (owned_in old) w → IsShown (owned_in new) v
    → contains v x y ≡ true → is_same_color (color_in old w x y) (color_in new v x y) ≡ true
same-colors old new x y w v keeps f b s t here =
    let c = v.owner.client in
    let q = buffer_point (transform_of v.transform) v.width v.height (unsigned_abs (x -ℤ v.corner.x)) (unsigned_abs (y -ℤ v.corner.y)) in
    let p = point_at v x y in
    let across = far-within x v.corner.x v.width (x -ℤ v.corner.x) refl (and-left (in_span v.corner.x (pos v.width) x) (in_span v.corner.y (pos v.height) y) here) in
    let down = far-within y v.corner.y v.height (y -ℤ v.corner.y) refl (and-right (in_span v.corner.x (pos v.width) x) (in_span v.corner.y (pos v.height) y) here) in
    let within = point-within (transform_of v.transform) v.width v.height (unsigned_abs (x -ℤ v.corner.x)) (unsigned_abs (y -ℤ v.corner.y)) (v.buffer.width / v.scale) (v.buffer.height / v.scale) t.3 t.4 across down in
    let there : history_in w.surface (owned_in old c).surfaces ≡ Some s.0 = subst (λ n. history_in w.surface (owned_in old n).surfaces ≡ Some s.0) f.client s.1 in
    let unwritten = found-none (is_rewritten_at old new c p.0 p.1) (owned_in old c).surfaces.surfaces (λ (z : Surface). z.id == w.surface) s.0 v.buffer (keeps p.0 p.1) there (s.2
    ∙ ap (λ (a : Buffer). Some a) b) in
    let was = pixel_at (bytes_in old c v.buffer.store) v.buffer p in
    subst (λ (q : Argb). is_same_color q (color_in new v x y) ≡ true) (sym (color-is old w v x y f b))
    (subst (λ (q : Argb). is_same_color was q ≡ true) (sym (color-is new v v x y (self v) refl))
    (not-rewritten (nat_lt p.0 v.buffer.width) (nat_lt p.1 v.buffer.height) (is_same_color (pixel_at (bytes_in old c v.buffer.store) v.buffer p) (pixel_at (bytes_in new c v.buffer.store) v.buffer p))
    unwritten (fits p.0 v.buffer.width (scaled-within q.0 v.scale v.buffer.width within.0))
    (fits p.1 v.buffer.height (scaled-within q.1 v.scale v.buffer.height within.1))))

pub any-none : {X : Type 0} (p : X → Bool) (xs : List X) → Each (λ x. p x ≡ false) xs → list_any p xs ≡ false
any-none p [] e = refl
any-none p (x ∷ xs) e = go (p x) e.0 (any-none p xs e.1) where
  go : (b : Bool) → b ≡ false → list_any p xs ≡ false → (b || list_any p xs) ≡ false
  go true f g = absurd (differ (sym f))
  go false f g = g

not-hidden : (old new : Desktop) (c : ℕ) (x y : ℤ) (w v : Window) → IsKept c old new → (w.owner.client == c) ≡ true → (v.owner.client == c) ≡ true → IsShown (owned_in old) w → IsShown (owned_in new) v
    → is_hidden_in old new x y w v ≡ false
not-hidden old new c x y w v keeps of of' s t =
    false_from_ne_true (is_hidden_in old new x y w v)
    (λ e. let rest = and-right (has_same_record w v) _ e in
    let f = fields w v (and-left (has_same_record w v) _ e) in
    let here = and-left (contains v x y) _ rest in
    let same = one f here (subst (λ n. IsKept n old new) (sym (eqb-true v.owner.client c of')) keeps) in
    differ (sym (ap not same) ∙ and-left (not (is_same_color (color_in old w x y) (color_in new v x y))) _ (and-right (contains v x y) _ rest)))
  where
    one : Fields w v → contains v x y ≡ true → IsKept v.owner.client old new → is_same_color (color_in old w x y) (color_in new v x y) ≡ true
    one f here (inl k) = same-colors old new x y w v k.1 f (same-buffer (owned_in old) (owned_in new) w v f k.0 s t) s t here
    one f here (inr k) = absurd (nothing-shown v (owned_in new v.owner.client) t.0 k t.1)

-- whichever windows are shown, if each shows the buffer that its surface has applied
pub hides-nothing : (shown : Showing) (old new : Desktop) (c : ℕ) → Each (IsShown (owned_in old)) (shown old) → Each (IsShown (owned_in new)) (shown new) → IsKept c old new
    → KeepsDamage shown old new c
hides-nothing shown old new c here there keeps = λ x y.
    let before = each-kept (λ (w : Window). w.owner.client == c) (IsShown (owned_in old)) (shown old) here in
    let after = each-kept (λ (w : Window). w.owner.client == c) (IsShown (owned_in new)) (shown new) there in
    any-none (λ v. list_any (λ w. is_hidden_in old new x y w v) (windows_by shown c old)) (windows_by shown c new)
    (each-map (λ (v : Window). ((v.owner.client == c) ≡ true) × IsShown (owned_in new) v) (λ v. list_any (λ w. is_hidden_in old new x y w v) (windows_by shown c old) ≡ false)
    (λ v t. any-none (λ w. is_hidden_in old new x y w v) (windows_by shown c old)
    (each-map (λ (w : Window). ((w.owner.client == c) ≡ true) × IsShown (owned_in old) w) (λ w. is_hidden_in old new x y w v ≡ false) (λ w s. not-hidden old new c x y w v keeps s.0 t.0 s.1 t.1)
    (windows_by shown c old) before))
    (windows_by shown c new) after)

pub write_hides_nothing : WriteHidesNothing
write_hides_nothing old new client store at c bytes done step keeps =
    hides-nothing all_windows old new c (all-shown old) (all-shown new)
    (kept-by c old new (owned-after client store at c bytes (client_at client old) old new done refl step) keeps)
