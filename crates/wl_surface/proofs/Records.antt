-- What a request makes of a list, and of the records that stand for the list.
use Rattle.std.proofs.Common.{◌≡◌, ℕ, suc, ◌≤◌, ◌<◌, drop, List, [], ◌∷◌, ◌++◌, Bool, true, false, Option, Some, None, length, take, refl, ap, sym, subst, ◌∙◌, arith}
use Rattle.std.proofs.lemmas.List.{append-nil, drop_all, length-append, length-take, take-append-le, take_all}
use Rattle.std.specs.Prelude.{ℤ, ◌+ℤ◌, if◌then◌else◌, flat_map, fold}
use Rattle.std.specs.Option.{option_map, option_or}
use Rattle.wl_geom.specs.Region.{Area}
use Rattle.wl_store.specs.declared.scale.Scale.{Scale}
use Rattle.wl_store.specs.declared.transform.Transform.{Transform}
use Rattle.wl_surface.specs.declared.content.Attached.{Attached}
use Rattle.wl_surface.specs.declared.content.Offset.{Offset}
use Rattle.wl_geom.specs.declared.rect.Rect.{Rect}
use Rattle.wl_surface.specs.declared.role.Role.{Role}
use Rattle.wl_surface.specs.Request.{Request, Commit, Damage, DamageBuffer}
use Rattle.wl_surface.specs.State.{History, Moving, Values, apply, asked, committed, committed_from, damaged_buffer_rect, damaged_buffer_rects, damaged_rect, damaged_rects, first_values, pending}
use Rattle.wl_surface.specs.State.{is_commit, moved_by, moving, offset, values, within_bounds}
use Rattle.wl_surface.specs.Surface.{Surface, applying, asking, with_role}
use Rattle.wl_surface.specs.Kept.{HasMoved, IsFarther, Kept, Shows, Stands, StandsFor, held_list, latest, pair_of}
use Rattle.wl_surface.proofs.StateCommits.{committed-last}
use Rattle.wl_surface.proofs.Damages.{damage-joined, damage-more, take-none, take-one}

-- one request more
abbrev pub with_request : Request → History → History
with_request r h = record h { requests = h.requests ++ r ∷ [] }

same_if : (b : Bool) (m n : ℕ) → b ≡ false → (if b then m else n) ≡ n
same_if true m n e = absurd (cc)
same_if false m n e = refl

committed-kept : (rs : List Request) (r : Request) (at last : ℕ) → is_commit r ≡ false → committed_from at last (rs ++ r ∷ []) ≡ committed_from at last rs
committed-kept [] r at last e = same_if (is_commit r) (suc at) last e
committed-kept (x ∷ rs) r at last e = committed-kept rs r (suc at) (if is_commit x then suc at else last) e

fold-last : {X Y : Type 0} (f : Y → X → Y) (y : Y) (xs : List X) (x : X) → fold f y (xs ++ x ∷ []) ≡ f (fold f y xs) x
fold-last f y [] x = refl
fold-last f y (z ∷ xs) x = fold-last f (f y z) xs x

pub values-asked : (rs : List Request) (r : Request) → values (rs ++ r ∷ []) ≡ asked (values rs) r
values-asked rs r = fold-last asked first_values rs r

pub offset-asked : (rs : List Request) (r : Request) → offset (rs ++ r ∷ []) ≡ moving (offset rs) r
offset-asked rs r = fold-last moving _ rs r

-- What is held stays without a commit. What is applied always stays.
pub held-kept : (rs : List Request) (r : Request) → is_commit r ≡ false → committed rs ≤ length rs → held_list (rs ++ r ∷ []) ≡ held_list rs
held-kept rs r e le = ap (λ n. take n (rs ++ r ∷ [])) (committed-kept rs r 0 0 e) ∙ take-append-le (committed rs) rs (r ∷ []) le

pub held-committed : (rs : List Request) → held_list (rs ++ Commit ∷ []) ≡ rs ++ Commit ∷ []
held-committed rs = let e = committed-last rs in take_all (committed (rs ++ Commit ∷ [])) (rs ++ Commit ∷ []) (omega (arith, e))

pub applied-kept : (h : History) (r : Request) → h.cut ≤ committed h.requests → committed h.requests ≤ length h.requests → take h.cut (h.requests ++ r ∷ []) ≡ take h.cut h.requests
applied-kept h r le within = take-append-le h.cut h.requests (r ∷ []) (omega (arith, le, within))

-- The kept damage of both kinds is the pending damage with one more request.
pub record Adds (damage buffer_damage : List Rect) (h : History) (r : Request) : Type 0 where
  pub rects : damage ≡ take 1025 (damaged_rects (drop (committed h.requests) h.requests) ++ damaged_rects (r ∷ []))
  pub buffer_rects : buffer_damage ≡ take 1025 (damaged_buffer_rects (drop (committed h.requests) h.requests) ++ damaged_buffer_rects (r ∷ []))

-- A request that is no commit changes what is pending, and nothing else.
pub Stands-asked : (k : Kept) (h : History) (r : Request) (buffer : Option Attached) (transform : Transform) (scale : Scale) (opaque : Option Area) (input : Option (Option Area))
    (by : Option Offset) (damage buffer_damage : List Rect) → is_commit r ≡ false → Stands k h
    → Shows buffer transform scale (latest opaque (latest k.held_opaque k.current_opaque)) (latest input (latest k.held_input k.current_input)) (asked (pending h) r)
    → moving (offset h.requests) r ≡ record { x = (offset h.requests).x; y = (offset h.requests).y; next = option_map pair_of by }
    → Adds damage buffer_damage h r
    → Stands (record k {
      pending_buffer = buffer;
      pending_transform = transform;
      pending_scale = scale;
      pending_opaque = opaque;
      pending_input = input;
      pending_offset = by;
      pending_damage = damage;
      pending_buffer_damage = buffer_damage;
    }) (with_request r h)
Stands-asked k h r buffer transform scale opaque input by damage buffer_damage plain s shows moves adds =
    let list = sym (held-kept h.requests r plain s.commits_within) in
    let counting = sym (applied-kept h r s.cut_within s.commits_within) in
    let offsets = sym (offset-asked h.requests r ∙ moves) in
    let at = committed-kept h.requests r 0 0 plain in
    let longer = length-append h.requests (r ∷ []) in record {
      pending = subst (λ (v : Values). Shows buffer transform scale (latest opaque (latest k.held_opaque k.current_opaque)) (latest input (latest k.held_input k.current_input)) v)
          (sym (values-asked h.requests r)) shows;
      held = subst (λ (v : Values). Shows k.held_buffer k.held_transform k.held_scale (latest k.held_opaque k.current_opaque) (latest k.held_input k.current_input) v) (ap values list) s.held;
      current = subst (λ (v : Values). Shows k.current_buffer k.current_transform k.current_scale k.current_opaque k.current_input v) (ap values counting) s.current;
      pending_move = ap (λ (m : Moving). m.next) offsets;
      pending_place = (s.pending_place.0 ∙ ap (λ (m : Moving). m.x) offsets, s.pending_place.1 ∙ ap (λ (m : Moving). m.y) offsets);
      held_place = subst (λ (rs : List Request). HasMoved k.held_offset rs) list s.held_place;
      current_place = subst (λ (rs : List Request). HasMoved k.current_offset rs) counting s.current_place;
      pending_damaged = adds.rects ∙ damage-more damaged_rect (committed h.requests) (committed (h.requests ++ r ∷ [])) h.requests r s.commits_within at;
      held_damaged = s.held_damaged ∙ ap (λ (rs : List Request). take 1025 (damaged_rects (drop h.cut rs))) list;
      pending_buffer_damaged = adds.buffer_rects ∙ damage-more damaged_buffer_rect (committed h.requests) (committed (h.requests ++ r ∷ [])) h.requests r s.commits_within at;
      held_buffer_damaged = s.held_buffer_damaged ∙ ap (λ (rs : List Request). take 1025 (damaged_buffer_rects (drop h.cut rs))) list;
      cut_within = subst (λ (n : ℕ). h.cut ≤ n) (sym at) s.cut_within;
      commits_within = let e = s.commits_within in omega (arith, at, longer, e);
    }

-- the same, of a surface, whose role stays
pub For-asked : (k : Kept) (s : Surface) (r : Request) (buffer : Option Attached) (transform : Transform) (scale : Scale) (opaque : Option Area) (input : Option (Option Area))
    (by : Option Offset) (damage buffer_damage : List Rect) → is_commit r ≡ false → StandsFor k s
    → Shows buffer transform scale (latest opaque (latest k.held_opaque k.current_opaque)) (latest input (latest k.held_input k.current_input)) (asked (pending s.history) r)
    → moving (offset s.history.requests) r ≡ record { x = (offset s.history.requests).x; y = (offset s.history.requests).y; next = option_map pair_of by }
    → Adds damage buffer_damage s.history r
    → StandsFor (record k {
      pending_buffer = buffer;
      pending_transform = transform;
      pending_scale = scale;
      pending_opaque = opaque;
      pending_input = input;
      pending_offset = by;
      pending_damage = damage;
      pending_buffer_damage = buffer_damage;
    }) (asking r s)
For-asked k s r buffer transform scale opaque input by damage buffer_damage plain t shows moves adds =
    record { history = Stands-asked k s.history r buffer transform scale opaque input by damage buffer_damage plain t.history shows moves adds; role = t.role }

-- a request that damages nothing of one kind
still-pending : (f : Request → List Rect) (kept : List Rect) (h : History) (r : Request) → kept ≡ take 1025 (flat_map f (drop (committed h.requests) h.requests)) → flat_map f (r ∷ []) ≡ []
    → kept ≡ take 1025 (flat_map f (drop (committed h.requests) h.requests) ++ flat_map f (r ∷ []))
still-pending f kept h r is none =
    is ∙ ap (λ rs. take 1025 rs) (sym (append-nil _)) ∙ ap (λ rs. take 1025 (flat_map f (drop (committed h.requests) h.requests) ++ rs)) (sym none)

-- a request that damages nothing
pub undamaged : (k : Kept) (h : History) (r : Request) → damaged_rects (r ∷ []) ≡ [] → damaged_buffer_rects (r ∷ []) ≡ [] → Stands k h
    → Adds k.pending_damage k.pending_buffer_damage h r
undamaged k h r none none_of_buffer s = record {
  rects = still-pending damaged_rect k.pending_damage h r s.pending_damaged none;
  buffer_rects = still-pending damaged_buffer_rect k.pending_buffer_damage h r s.pending_buffer_damaged none_of_buffer;
}

-- a request that moves nothing
pub still : (k : Kept) (h : History) → Stands k h → offset h.requests ≡ record { x = (offset h.requests).x; y = (offset h.requests).y; next = option_map pair_of k.pending_offset }
still k h s = ap (λ (n : Option (ℤ × ℤ)). record { x = (offset h.requests).x; y = (offset h.requests).y; next = n }) (sym s.pending_move)

-- a request of which nothing is kept
pub For-unseen : (k : Kept) (s : Surface) (r : Request) → is_commit r ≡ false → asked (pending s.history) r ≡ pending s.history → moving (offset s.history.requests) r ≡ offset s.history.requests
    → damaged_rects (r ∷ []) ≡ [] → damaged_buffer_rects (r ∷ []) ≡ [] → StandsFor k s → StandsFor k (asking r s)
For-unseen k s r plain same stays none none_of_buffer t =
    For-asked k s r k.pending_buffer k.pending_transform k.pending_scale k.pending_opaque k.pending_input k.pending_offset k.pending_damage k.pending_buffer_damage plain t
    (subst (λ (v : Values). Shows k.pending_buffer k.pending_transform k.pending_scale (latest k.pending_opaque (latest k.held_opaque k.current_opaque))
    (latest k.pending_input (latest k.held_input k.current_input)) v) (sym same) t.history.pending)
    (stays ∙ still k s.history t.history) (undamaged k s.history r none none_of_buffer t.history)

-- One more rectangle is kept if fewer than 1,025 are, or else none.
kept-more : (kept fresh : List Rect) (rect : Rect) → kept ≡ take 1025 fresh → length kept < 1025 → kept ++ rect ∷ [] ≡ take 1025 (fresh ++ rect ∷ [])
kept-more kept fresh rect is less =
    let room : length (take 1025 fresh) < 1025 = subst (λ (rs : List Rect). length rs < 1025) is less in
    ap (λ rs. rs ++ rect ∷ []) is ∙ sym (take-one 1025 fresh rect room)

kept-full : (kept fresh : List Rect) (rect : Rect) → kept ≡ take 1025 fresh → 1025 ≤ length kept → kept ≡ take 1025 (fresh ++ rect ∷ [])
kept-full kept fresh rect is le =
    let full : 1025 ≤ length (take 1025 fresh) = subst (λ (rs : List Rect). 1025 ≤ length rs) is le in
    is ∙ sym (take-none 1025 fresh rect full)

module _ (k : Kept) (surface : Surface) (rect : Rect) (u : StandsFor k surface) where
  abbrev fresh : List Rect
  fresh = damaged_rects (drop (committed surface.history.requests) surface.history.requests)

  abbrev fresh_of_buffer : List Rect
  fresh_of_buffer = damaged_buffer_rects (drop (committed surface.history.requests) surface.history.requests)

  -- damage of the surface
  pub For-damaged : length k.pending_damage < 1025 → StandsFor (record k { pending_damage = k.pending_damage ++ rect ∷ [] }) (asking (Damage rect) surface)
  For-damaged less = For-asked k surface (Damage rect) _ _ _ _ _ _ _ _ refl u u.history.pending (still k surface.history u.history) (record {
    rects = kept-more k.pending_damage fresh rect u.history.pending_damaged less;
    buffer_rects = still-pending damaged_buffer_rect k.pending_buffer_damage surface.history (Damage rect) u.history.pending_buffer_damaged refl;
  })

  pub For-undamaged : 1025 ≤ length k.pending_damage → StandsFor k (asking (Damage rect) surface)
  For-undamaged le = For-asked k surface (Damage rect) _ _ _ _ _ _ _ _ refl u u.history.pending (still k surface.history u.history) (record {
    rects = kept-full k.pending_damage fresh rect u.history.pending_damaged le;
    buffer_rects = still-pending damaged_buffer_rect k.pending_buffer_damage surface.history (Damage rect) u.history.pending_buffer_damaged refl;
  })

  -- damage of its buffer
  pub For-damaged-buffer : length k.pending_buffer_damage < 1025 → StandsFor (record k { pending_buffer_damage = k.pending_buffer_damage ++ rect ∷ [] }) (asking (DamageBuffer rect) surface)
  For-damaged-buffer less = For-asked k surface (DamageBuffer rect) _ _ _ _ _ _ _ _ refl u u.history.pending (still k surface.history u.history) (record {
    rects = still-pending damaged_rect k.pending_damage surface.history (DamageBuffer rect) u.history.pending_damaged refl;
    buffer_rects = kept-more k.pending_buffer_damage fresh_of_buffer rect u.history.pending_buffer_damaged less;
  })

  pub For-undamaged-buffer : 1025 ≤ length k.pending_buffer_damage → StandsFor k (asking (DamageBuffer rect) surface)
  For-undamaged-buffer le = For-asked k surface (DamageBuffer rect) _ _ _ _ _ _ _ _ refl u u.history.pending (still k surface.history u.history) (record {
    rects = still-pending damaged_rect k.pending_damage surface.history (DamageBuffer rect) u.history.pending_damaged refl;
    buffer_rects = kept-full k.pending_buffer_damage fresh_of_buffer rect u.history.pending_buffer_damaged le;
  })

latest-newer : {X : Type 0} (a b : Option X) (c : X) → latest (option_or a b) c ≡ latest a (latest b c)
latest-newer (Some x) b c = refl
latest-newer None b c = refl

moved-next : (o new : Offset) (by : Option Offset) (m : Moving) → option_map pair_of by ≡ m.next → o.x ≡ m.x → o.y ≡ m.y → IsFarther o by new → (new.x ≡ (moved_by m m.next).x)
    × (new.y ≡ (moved_by m m.next).y) × (None ≡ (moved_by m m.next).next)
moved-next o new None m e x y f =
    let n = sym e in rw n (ap (λ (p : Offset). p.x) f ∙ x, ap (λ (p : Offset). p.y) f ∙ y, refl)
moved-next o new (Some by) m e x y f =
    let n = sym e in rw n (f.0 ∙ ap (λ z. within_bounds (z +ℤ by.x)) x, f.1 ∙ ap (λ z. within_bounds (z +ℤ by.y)) y, refl)

-- A commit holds what was pending.
pub Stands-committed : (k : Kept) (h : History) (new : Offset) → Stands k h → IsFarther k.held_offset k.pending_offset new
    → Stands (record k {
      held_buffer = k.pending_buffer;
      held_transform = k.pending_transform;
      held_scale = k.pending_scale;
      held_opaque = option_or k.pending_opaque k.held_opaque;
      pending_opaque = None;
      held_input = option_or k.pending_input k.held_input;
      pending_input = None;
      pending_offset = None;
      held_offset = new;
      pending_damage = [];
      held_damage = take 1025 (k.held_damage ++ k.pending_damage);
      pending_buffer_damage = [];
      held_buffer_damage = take 1025 (k.held_buffer_damage ++ k.pending_buffer_damage);
    })
    (with_request Commit h)
Stands-committed k h new s moved =
    let all = h.requests ++ Commit ∷ [] in
    let whole = sym (held-committed h.requests) in
    let joined = damage-joined damaged_rect k.held_damage k.pending_damage h.cut h.requests s.cut_within s.commits_within s.held_damaged s.pending_damaged refl in
    let joined_of_buffer = damage-joined damaged_buffer_rect k.held_buffer_damage k.pending_buffer_damage h.cut h.requests s.cut_within s.commits_within s.held_buffer_damaged s.pending_buffer_damaged
    refl in
    let counting = sym (applied-kept h Commit s.cut_within s.commits_within) in
    let at = committed-last h.requests in
    let longer = length-append h.requests (Commit ∷ []) in
    let m = moved-next k.held_offset new k.pending_offset (offset h.requests) s.pending_move s.pending_place.0 s.pending_place.1 moved in
    let offsets = sym (offset-asked h.requests Commit) in
    let opaque = sym (latest-newer k.pending_opaque k.held_opaque k.current_opaque) in
    let input = sym (latest-newer k.pending_input k.held_input k.current_input) in
    let shows = subst (λ (v : Values). Shows k.pending_buffer k.pending_transform k.pending_scale (latest k.pending_opaque (latest k.held_opaque k.current_opaque))
    (latest k.pending_input (latest k.held_input k.current_input)) v) (sym (values-asked h.requests Commit)) s.pending in
    let layered = subst (λ (a : Area). Shows k.pending_buffer k.pending_transform k.pending_scale a (latest (option_or k.pending_input k.held_input) k.current_input) (values all)) opaque
    (subst (λ (a : Option Area). Shows k.pending_buffer k.pending_transform k.pending_scale (latest k.pending_opaque (latest k.held_opaque k.current_opaque)) a (values all)) input shows) in
    let place : HasMoved new (h.requests ++ Commit ∷ []) = (m.0 ∙ ap (λ (x : Moving). x.x) offsets, m.1 ∙ ap (λ (x : Moving). x.y) offsets) in record {
      pending = layered;
      held = subst (λ (v : Values). Shows k.pending_buffer k.pending_transform k.pending_scale (latest (option_or k.pending_opaque k.held_opaque) k.current_opaque)
          (latest (option_or k.pending_input k.held_input) k.current_input) v) (ap values whole) layered;
      current = subst (λ (v : Values). Shows k.current_buffer k.current_transform k.current_scale k.current_opaque k.current_input v) (ap values counting) s.current;
      pending_move = m.2 ∙ ap (λ (x : Moving). x.next) offsets;
      pending_place = place;
      held_place = subst (λ (rs : List Request). HasMoved new rs) whole place;
      current_place = subst (λ (rs : List Request). HasMoved k.current_offset rs) counting s.current_place;
      pending_damaged = ap (λ (rs : List Request). take 1025 (damaged_rects rs)) (sym (drop_all (committed all) all (omega (arith, at))));
      held_damaged = joined ∙ ap (λ (rs : List Request). take 1025 (damaged_rects (drop h.cut rs))) whole;
      pending_buffer_damaged = ap (λ (rs : List Request). take 1025 (damaged_buffer_rects rs)) (sym (drop_all (committed all) all (omega (arith, at))));
      held_buffer_damaged = joined_of_buffer ∙ ap (λ (rs : List Request). take 1025 (damaged_buffer_rects (drop h.cut rs))) whole;
      cut_within = let e = s.cut_within in let f = s.commits_within in omega (arith, at, longer, e, f);
      commits_within = omega (arith, at);
    }

pub For-committed : (k : Kept) (s : Surface) (new : Offset) → StandsFor k s → IsFarther k.held_offset k.pending_offset new
    → StandsFor (record k {
      held_buffer = k.pending_buffer;
      held_transform = k.pending_transform;
      held_scale = k.pending_scale;
      held_opaque = option_or k.pending_opaque k.held_opaque;
      pending_opaque = None;
      held_input = option_or k.pending_input k.held_input;
      pending_input = None;
      pending_offset = None;
      held_offset = new;
      pending_damage = [];
      held_damage = take 1025 (k.held_damage ++ k.pending_damage);
      pending_buffer_damage = [];
      held_buffer_damage = take 1025 (k.held_buffer_damage ++ k.pending_buffer_damage);
    })
    (asking Commit s)
For-committed k s new t moved = record { history = Stands-committed k s.history new t.history moved; role = t.role }

-- Applying applies what was held.
Stands-applied : (k : Kept) (h : History) → Stands k h
    → Stands (record k {
      current_buffer = k.held_buffer;
      current_transform = k.held_transform;
      current_scale = k.held_scale;
      current_offset = k.held_offset;
      current_opaque = latest k.held_opaque k.current_opaque;
      held_opaque = None;
      current_input = latest k.held_input k.current_input;
      held_input = None;
      held_damage = [];
      held_buffer_damage = [];
    }) (apply h)
Stands-applied k h s =
    let at = committed h.requests in
    let short = length-take at h.requests in record {
      pending = s.pending;
      held = s.held;
      current = s.held;
      pending_move = s.pending_move;
      pending_place = s.pending_place;
      held_place = s.held_place;
      current_place = s.held_place;
      pending_damaged = s.pending_damaged;
      held_damaged = ap (λ (rs : List Request). take 1025 (damaged_rects rs)) (sym (drop_all at (take at h.requests) (omega (arith, short))));
      pending_buffer_damaged = s.pending_buffer_damaged;
      held_buffer_damaged = ap (λ (rs : List Request). take 1025 (damaged_buffer_rects rs)) (sym (drop_all at (take at h.requests) (omega (arith, short))));
      cut_within = omega arith;
      commits_within = s.commits_within;
    }

pub For-applied : (k : Kept) (s : Surface) → StandsFor k s
    → StandsFor (record k {
      current_buffer = k.held_buffer;
      current_transform = k.held_transform;
      current_scale = k.held_scale;
      current_offset = k.held_offset;
      current_opaque = latest k.held_opaque k.current_opaque;
      held_opaque = None;
      current_input = latest k.held_input k.current_input;
      held_input = None;
      held_damage = [];
      held_buffer_damage = [];
    }) (applying s)
For-applied k s t = record { history = Stands-applied k s.history t.history; role = t.role }

-- A role changes nothing of what is asked of a surface.
pub For-role : (k : Kept) (s : Surface) (role : Role) → StandsFor k s → StandsFor (record k { role = Some role }) (with_role role s)
For-role k s role t =
    let h = t.history in
    let same : Stands (record k { role = Some role }) s.history = record {
      pending = h.pending;
      held = h.held;
      current = h.current;
      pending_move = h.pending_move;
      pending_place = h.pending_place;
      held_place = h.held_place;
      current_place = h.current_place;
      pending_damaged = h.pending_damaged;
      held_damaged = h.held_damaged;
      pending_buffer_damaged = h.pending_buffer_damaged;
      held_buffer_damaged = h.held_buffer_damaged;
      cut_within = h.cut_within;
      commits_within = h.commits_within;
    } in
    record { history = same; role = refl }
