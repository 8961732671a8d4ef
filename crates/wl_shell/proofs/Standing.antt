-- What is kept of an xdg_surface goes on standing for it.
use Rattle.std.proofs.Common.{◌≡◌, ℕ, ℤ, ◌≤◌, List, [], ◌∷◌, ◌++◌, Bool, true, false, Option, Some, None, length, take, drop, refl, ap, sym, ◌∙◌, subst, arith}
use Rattle.std.specs.Prelude.{◌&&◌, if◌then◌else◌, Ok, Err, IfSome, fold, is_some}
use Rattle.std.specs.Option.{option_map, option_map_or}
use Rattle.std.proofs.lemmas.List.{take_all, drop_all, length-append, length-take, take-append-le, drop-append-le}
use Rattle.std.proofs.lemmas.List.Sums.{fold-append}
use Rattle.wl_geom.specs.declared.rect.Rect.{Rect}
use Rattle.wl_surface.specs.Request.{Request, Commit, SetWindowGeometry}
use Rattle.wl_surface.specs.State.{History, apply, committed, geometry, geometry_asked}
use Rattle.wl_surface.proofs.StateCommits.{committed-last}
use Rattle.wl_shell.specs.declared.acts.ShellAct.{ShellAct}
use Rattle.wl_shell.specs.declared.acts.ShellAct.TheVariants.{Configure, Map, Nothing, Place, Unmap}
use Rattle.wl_shell.specs.declared.stage.Stage.{Stage}
use Rattle.wl_shell.specs.Kept.{Kept, Stands, arrival, effect_answer, is_configured_in, kept_after, kept_applied, kept_arriving, kept_changed, kept_configuring_with}
use Rattle.wl_shell.specs.Kept.{kept_in_stage, kept_repositioning, placed_anew, placement_in, reposition_answer, reposition_by}
use Rattle.wl_shell.specs.Popups.{Popped, arrive, arriving, copying, effect_in, first_of, in_force, is_configured, is_toplevel_kind, placing, popped_kind, popped_of, popped_role}
use Rattle.wl_shell.specs.Popups.{popup_changed, popup_in, repositioning, unmapped, waiting_in, with_effect, with_popup, with_popup_role}
use Rattle.wl_shell.specs.declared.error.ShellError.TheVariants as error
use Rattle.wl_shell.specs.Positioner.{Placed, Positioner, is_complete, place, placed_in}
use Rattle.wl_shell.specs.Shell.{Configure as Waits, Effect, Stays, Unconfigured, Configures, Maps, Unmaps, Fresh, Waiting, Mapped, Kind, Toplevel, IsPopup, Popup, RoleObject, XdgSurface}
use Rattle.wl_shell.specs.Shell.{at_stage, configuring, configuring_with, in_stage, is_full, later_than, role_acknowledged, unmapping, up_to}
use Rattle.wl_shell.specs.Laws.{AcknowledgementStands, ChangesStand, CommitStands, ConfigureStands, DestructionStands, GeometryStands, NewStands, OtherStands, PopupChangeStands, PopupStands}
use Rattle.wl_shell.specs.Laws.{RepositionAnswers, RepositionStands, ToplevelStands, one_more}

-- one request more since a place
asked-more : (since : ℕ) (rs : List Request) (request : Request) → since ≤ length rs
    → fold geometry_asked None (drop since (rs ++ request ∷ [])) ≡ geometry_asked (fold geometry_asked None (drop since rs)) request
asked-more since rs request le =
    ap (fold geometry_asked None) (drop-append-le since rs (request ∷ []) le) ∙ fold-append geometry_asked None (drop since rs) (request ∷ [])

longer : (n : ℕ) (rs : List Request) (request : Request) → n ≤ length rs → n ≤ length (rs ++ request ∷ [])
longer n rs request le = omega (arith, length-append rs (request ∷ []))

-- what counts doesn't change by a request
counts-still : (since : ℕ) (h : History) (request : Request) → h.cut ≤ length h.requests → geometry since (one_more request h) ≡ geometry since h
counts-still since h request le = ap (λ rs. fold geometry_asked None (drop since rs)) (take-append-le h.cut h.requests (request ∷ []) le)

-- after a commit all counts
all-counts : (since : ℕ) (h : History) → geometry since (apply (one_more Commit h)) ≡ fold geometry_asked None (drop since (h.requests ++ Commit ∷ []))
all-counts since h =
    let all = h.requests ++ Commit ∷ [] in
    ap (λ rs. fold geometry_asked None (drop since rs)) (take_all (committed all) all (let e = committed-last h.requests in omega (arith, e)))

cut-within : (h : History) → (apply (one_more Commit h)).cut ≤ length (one_more Commit h).requests
cut-within h = let e = committed-last h.requests in omega (arith, e)

-- no window geometry was asked since the end
none-since : (rs : List Request) → fold geometry_asked None (drop (length rs) rs) ≡ None
none-since rs = ap (fold geometry_asked None) (drop_all (length rs) rs (omega arith))

none-counts : (n : ℕ) (h : History) → length h.requests ≤ n → geometry n h ≡ None
none-counts n h le = ap (fold geometry_asked None) (drop_all n (take h.cut h.requests) (let e = length-take h.cut h.requests in omega (arith, e)))

-- ---- a role object that is a toplevel

abbrev IsToplevelIf : Option RoleObject → Type 0
IsToplevelIf o = is_some o ≡ true → option_map_or (λ (object : RoleObject). is_toplevel_kind object.kind) o false ≡ true

kind-still : (change : Popup → Popup) (kind : Kind) → is_toplevel_kind kind ≡ true → with_popup change kind ≡ kind
kind-still change Toplevel is = refl
kind-still change (IsPopup popup) is = absurd (cc)

role-still : (change : Popup → Popup) (o : Option RoleObject) → IsToplevelIf o → option_map (with_popup_role change) o ≡ o
role-still change None top = refl
role-still change (Some object) top = ap (λ (k : Kind). Some (record object { kind = k })) (kind-still change object.kind (top refl))

-- a change of popups is none
pub popup-still : (change : Popup → Popup) (x : XdgSurface) → IsToplevelIf x.role → popup_changed change x ≡ x
popup-still change x top = ap (λ (o : Option RoleObject). record x { role = o }) (role-still change x.role top)

pub new_stands : NewStands
new_stands id base surface h within = record {
  id = refl;
  base = refl;
  role = refl;
  configures = refl;
  pending = λ there. absurd (cc);
  applied = λ there. absurd (cc);
  since_le = omega arith;
  cut_le = within;
}

toplevel_stands : ToplevelStands
toplevel_stands id k x h s = record {
  id = s.id;
  base = s.base;
  role = refl;
  configures = refl;
  pending = λ there. sym (none-since h.requests);
  applied = λ there. sym (none-counts (length h.requests) h (omega arith));
  since_le = omega arith;
  cut_le = s.cut_le;
}

popup_stands : PopupStands
popup_stands id parent positioner number k x h s = record {
  id = s.id;
  base = s.base;
  role = refl;
  configures = refl;
  pending = λ there. sym (none-since h.requests);
  applied = λ there. sym (none-counts (length h.requests) h (omega arith));
  since_le = omega arith;
  cut_le = s.cut_le;
}

geometry_stands : GeometryStands
geometry_stands rect k x h s = record {
  id = s.id;
  base = s.base;
  role = s.role;
  configures = s.configures;
  pending = λ there. sym (asked-more x.since h.requests (SetWindowGeometry rect) s.since_le);
  applied = λ there. s.applied there ∙ sym (counts-still x.since h (SetWindowGeometry rect) s.cut_le);
  since_le = longer x.since h.requests (SetWindowGeometry rect) s.since_le;
  cut_le = longer h.cut h.requests (SetWindowGeometry rect) s.cut_le;
}

still-there : (f : RoleObject → RoleObject) (o : Option RoleObject) → is_some (option_map f o) ≡ is_some o
still-there f None = refl
still-there f (Some object) = refl

changed_stands : PopupChangeStands
changed_stands change k x h s = record {
  id = s.id;
  base = s.base;
  role = ap (option_map (with_popup_role change)) s.role;
  configures = s.configures;
  pending = λ there. s.pending (sym (still-there (with_popup_role change) x.role) ∙ there);
  applied = λ there. s.applied (sym (still-there (with_popup_role change) x.role) ∙ there);
  since_le = s.since_le;
  cut_le = s.cut_le;
}

acknowledgement_stands : AcknowledgementStands
acknowledgement_stands serial k x h s = record {
  id = s.id;
  base = s.base;
  role = ap (λ (cs : List Waits). option_map (role_acknowledged (up_to serial cs)) k.role) s.configures ∙ ap (option_map (role_acknowledged (up_to serial x.configures))) s.role;
  configures = ap (later_than serial) s.configures;
  pending = λ there. s.pending (sym (still-there (role_acknowledged (up_to serial x.configures)) x.role) ∙ there);
  applied = λ there. s.applied (sym (still-there (role_acknowledged (up_to serial x.configures)) x.role) ∙ there);
  since_le = s.since_le;
  cut_le = s.cut_le;
}

-- one configure more waits
one-more : (c : Waits) (cs ds : List Waits) → cs ≡ ds → cs ++ c ∷ [] ≡ ds ++ c ∷ []
one-more c cs ds same = ap (λ (cs : List Waits). cs ++ c ∷ []) same

configuring-stands : (serial : ℕ) (placement : Option Placed) (k : Kept) (x : XdgSurface) (h : History) → Stands k x h
    → Stands (kept_configuring_with serial placement k) (configuring_with serial placement x) h
configuring-stands serial placement k x h s = record {
  id = s.id;
  base = s.base;
  role = s.role;
  configures = one-more (record { serial = serial; placement = placement }) k.configures x.configures s.configures;
  pending = s.pending;
  applied = s.applied;
  since_le = s.since_le;
  cut_le = s.cut_le;
}

configure_stands : ConfigureStands
configure_stands serial k x h s = configuring-stands serial None k x h s

-- a placement that waits comes into force, and a stage
arriving-stands : (waiting : Option Placed) (k : Kept) (x : XdgSurface) (h : History) → Stands k x h → Stands (kept_arriving waiting k) (arriving waiting x) h
arriving-stands None k x h s = s
arriving-stands (Some placed) k x h s = changed_stands (arrive placed) k x h s

stage-stands : (stage : Stage) (k : Kept) (x : XdgSurface) (h : History) → Stands k x h → Stands (kept_in_stage stage k) (in_stage stage x) h
stage-stands stage k x h s = record {
  id = s.id;
  base = s.base;
  role = ap (option_map (at_stage stage)) s.role;
  configures = s.configures;
  pending = λ there. s.pending (sym (still-there (at_stage stage) x.role) ∙ there);
  applied = λ there. s.applied (sym (still-there (at_stage stage) x.role) ∙ there);
  since_le = s.since_le;
  cut_le = s.cut_le;
}

destruction_stands : DestructionStands
destruction_stands k x h s = record {
  id = s.id;
  base = s.base;
  role = refl;
  configures = refl;
  pending = λ there. absurd (cc);
  applied = λ there. absurd (cc);
  since_le = s.since_le;
  cut_le = s.cut_le;
}

other_stands : OtherStands
other_stands request k x h same s = record {
  id = s.id;
  base = s.base;
  role = s.role;
  configures = s.configures;
  pending = λ there. s.pending there ∙ sym (asked-more x.since h.requests request s.since_le ∙ same _);
  applied = λ there. s.applied there ∙ sym (counts-still x.since h request s.cut_le);
  since_le = longer x.since h.requests request s.since_le;
  cut_le = longer h.cut h.requests request s.cut_le;
}

-- a commit that lets the role object be, or brings it into another stage
module _ (k : Kept) (x : XdgSurface) (h : History) (s : Stands k x h) where
  requested : is_some x.role ≡ true → k.pending ≡ fold geometry_asked None (drop x.since (h.requests ++ Commit ∷ []))
  requested there = s.pending there ∙ sym (asked-more x.since h.requests Commit s.since_le)

  counts : Stands (kept_applied k) x (apply (one_more Commit h))
  counts = record {
    id = s.id;
    base = s.base;
    role = s.role;
    configures = s.configures;
    pending = requested;
    applied = λ there. requested there ∙ sym (all-counts x.since h);
    since_le = longer x.since h.requests Commit s.since_le;
    cut_le = cut-within h;
  }

  stays : (serial : ℕ) (waiting : Option Placed) (act : ShellAct) → act ≡ arrival waiting → Stands (kept_after serial act k) (arriving waiting x) (apply (one_more Commit h))
  stays serial None act same = rw same counts
  stays serial (Some placed) act same = rw same (arriving-stands (Some placed) (kept_applied k) x (apply (one_more Commit h)) counts)

  maps : (serial : ℕ) → Stands (kept_after serial Map k) (in_stage Mapped (arriving (waiting_in x.role) x)) (apply (one_more Commit h))
  maps serial =
      let arrives = arriving-stands (waiting_in k.role) (kept_applied k) x (apply (one_more Commit h)) counts in
      subst (λ (w : Option Placed). Stands (kept_after serial Map k) (in_stage Mapped (arriving w x)) (apply (one_more Commit h))) (ap waiting_in s.role)
      (stage-stands Mapped (kept_arriving (waiting_in k.role) (kept_applied k)) (arriving (waiting_in k.role) x) (apply (one_more Commit h)) arrives)

  -- a popup is placed there, and nothing else changes of a role object
  module _ (change : Popup → Popup) where
    placed-still : (stage : Stage) (o : Option RoleObject) → is_some (option_map (with_popup_role change) (option_map (at_stage stage) o)) ≡ is_some o
    placed-still stage o = still-there (with_popup_role change) (option_map (at_stage stage) o) ∙ still-there (at_stage stage) o

    configures : (serial : ℕ) (placed : Option Placed) → option_map (with_popup_role (in_force placed)) (option_map (at_stage Waiting) k.role) ≡ option_map (with_popup_role change) (option_map (at_stage Waiting) x.role)
        → Stands (kept_after serial (Configure placed) k) (configuring serial (popup_changed change (in_stage Waiting x))) (apply (one_more Commit h))
    configures serial placed same = record {
      id = s.id;
      base = s.base;
      role = same;
      configures = one-more (record { serial = serial; placement = None }) k.configures x.configures s.configures;
      pending = λ there. requested (sym (placed-still Waiting x.role) ∙ there);
      applied = λ there. requested (sym (placed-still Waiting x.role) ∙ there) ∙ sym (all-counts x.since h);
      since_le = longer x.since h.requests Commit s.since_le;
      cut_le = cut-within h;
    }

  unmaps : (serial : ℕ) → Stands (kept_after serial Unmap k) (popup_changed unmapped (unmapping (length (one_more Commit h).requests) x)) (apply (one_more Commit h))
  unmaps serial = record {
    id = s.id;
    base = s.base;
    role = ap (λ (o : Option RoleObject). option_map (with_popup_role unmapped) (option_map (at_stage Fresh) o)) s.role;
    configures = refl;
    pending = λ there. sym (none-since (one_more Commit h).requests);
    applied = λ there. sym (none-counts (length (one_more Commit h).requests) (apply (one_more Commit h)) (omega arith));
    since_le = omega arith;
    cut_le = cut-within h;
  }

-- the popup of a role object is placed where it is said
placed-so : (bounds : Rect) (parent_at : ℤ × ℤ) (where_to : Popup → Option Placed) (o : Option RoleObject)
    → IfSome (popup_in o) (λ popup. where_to popup ≡ place popup.positioner bounds parent_at)
    → option_map (with_popup_role (in_force (placement_in bounds parent_at o))) (option_map (at_stage Waiting) o) ≡ option_map (with_popup_role (placing where_to)) (option_map (at_stage Waiting) o)
placed-so bounds parent_at where_to None same = refl
placed-so bounds parent_at where_to (Some object) same = at object.kind same
  where
    at : (kind : Kind) → IfSome (popup_in (Some (record object { kind = kind }))) (λ popup. where_to popup ≡ place popup.positioner bounds parent_at)
        → option_map (with_popup_role (in_force (placement_in bounds parent_at (Some (record object { kind = kind }))))) (option_map (at_stage Waiting) (Some (record object { kind = kind })))
        ≡ option_map (with_popup_role (placing where_to)) (option_map (at_stage Waiting) (Some (record object { kind = kind })))
    at Toplevel same = refl
    at (IsPopup popup) same = ap (λ (p : Option Placed). Some (record { id = object.id; kind = IsPopup (in_force p popup); stage = Waiting })) (sym same)

module _ (k : Kept) (x : XdgSurface) (h : History) (s : Stands k x h) (bounds : Rect) (parent_at : ℤ × ℤ) (where_to : Popup → Option Placed)
    (there : IfSome (popup_in x.role) (λ popup. where_to popup ≡ place popup.positioner bounds parent_at)) where
  abbrev placed : Option Placed
  placed = placement_in bounds parent_at k.role

  placed-same : option_map (with_popup_role (in_force placed)) (option_map (at_stage Waiting) k.role) ≡ option_map (with_popup_role (placing where_to)) (option_map (at_stage Waiting) x.role)
  placed-same =
      ap (λ (o : Option RoleObject). option_map (with_popup_role (in_force (placement_in bounds parent_at o))) (option_map (at_stage Waiting) o)) s.role
      ∙ placed-so bounds parent_at where_to x.role there

  by-effect : (effect : Effect) (serial : ℕ) (act : ShellAct) (b : Bool) → (b ≡ is_full k.configures) → effect_answer placed (waiting_in k.role) effect k.configures ≡ Ok act
      → Stands (kept_after serial act k) (with_effect serial (length (one_more Commit h).requests) where_to effect x) (apply (one_more Commit h))
  by-effect Stays serial act b full answer = let same : act ≡ arrival (waiting_in k.role) = cc in stays k x h s serial (waiting_in x.role) act (same ∙ ap (λ (o : Option RoleObject). arrival (waiting_in o)) s.role)
  by-effect Unconfigured serial act b full answer = absurd (cc)
  by-effect Configures serial act true full answer = absurd (let e = rw (← full) at answer in cc)
  by-effect Configures serial act false full answer =
      let e = rw (← full) at answer in
      let same : act ≡ Configure placed = cc in
      rw same (configures k x h s (placing where_to) serial placed placed-same)
  by-effect Maps serial act b full answer = let same : act ≡ Map = cc in rw same (maps k x h s serial)
  by-effect Unmaps serial act b full answer = let same : act ≡ Unmap = cc in rw same (unmaps k x h s serial)

commit_stands : CommitStands
commit_stands has_buffer bounds parent_at serial where_to act k x h answer there s =
    let effect = ap (λ (o : Option RoleObject). effect_answer (placement_in bounds parent_at k.role) (waiting_in k.role) (effect_in has_buffer o) k.configures) (sym s.role) ∙ answer in
    by-effect k x h s bounds parent_at where_to there (effect_in has_buffer x.role) serial act (is_full k.configures) refl effect

-- ---- a popup is placed anew

-- what is kept of a popup that the definition has
its-object : (x : XdgSurface) (o : Option RoleObject) (p : Popped) → first_of (popped_role x o) ≡ Some p → (is_some (popup_in o) ≡ true) × (is_configured_in o ≡ is_configured p)
its-object x None p its = absurd (cc)
its-object x (Some object) p its = by-kind object.kind its
  where
    by-kind : (kind : Kind) → first_of (popped_kind x (record object { kind = kind }) kind) ≡ Some p
        → (is_some (popup_in (Some (record object { kind = kind }))) ≡ true) × (is_configured_in (Some (record object { kind = kind })) ≡ is_configured p)
    by-kind Toplevel its = absurd (cc)
    by-kind (IsPopup popup) its =
        let same : ◌≡◌ {A = Popped} (record { xdg = x; object = record object { kind = IsPopup popup }; popup = popup }) p = cc in
        (refl, ap is_configured same)

reposition_answers : RepositionAnswers
reposition_answers positioner bounds parent_at k x h p its s =
    let o = its-object x x.role p its in
    let there : is_some (popup_in k.role) ≡ true = ap (λ (o : Option RoleObject). is_some (popup_in o)) s.role ∙ o.0 in
    let configured : is_configured_in k.role ≡ is_configured p = ap is_configured_in s.role ∙ o.1 in
    rw there (ap (λ (b : Bool). reposition_by b positioner (place positioner bounds parent_at) k.configures) configured
    ∙ ap (reposition_by (is_configured p) positioner (place positioner bounds parent_at)) s.configures)

-- a complete positioner places a popup
places : (size : Option (ℤ × ℤ)) (r : Option Rect) (p : Positioner) (bounds : Rect) (parent_at : ℤ × ℤ) → (is_some size && is_some r) ≡ true → is_some (placed_in p size r bounds parent_at) ≡ true
places (Some size) (Some r) p bounds parent_at whole = refl
places (Some size) None p bounds parent_at whole = absurd (cc)
places None r p bounds parent_at whole = absurd (cc)

module _ (positioner : Positioner) (serial : ℕ) (place_now : Option Placed) (k : Kept) (x : XdgSurface) (h : History) (s : Stands k x h) where
  copied : Stands (kept_changed (copying positioner) k) (popup_changed (copying positioner) x) h
  copied = changed_stands (copying positioner) k x h s

  -- by whether it was configured, whether as many configures wait as may, and whether the positioner is complete
  repositioned : (configured full complete : Bool) (placed : Option Placed) → (complete ≡ true → is_some place_now ≡ true)
      → (if configured && full then Err error.TooMany else (if complete then Ok (placed_anew configured place_now) else Err error.InvalidPositioner)) ≡ Ok placed
      → (is_some placed ≡ configured) × Stands (kept_repositioning placed serial positioner k) (repositioning configured serial place_now positioner x) h
  repositioned true true complete placed gives is = absurd (cc)
  repositioned true false false placed gives is = absurd (cc)
  repositioned true false true placed gives is = let same : place_now ≡ placed = cc in placing-it place_now same (gives refl)
    where
      placing-it : (now : Option Placed) → now ≡ placed → is_some now ≡ true → (is_some placed ≡ true) × Stands (kept_repositioning placed serial positioner k) (repositioning true serial now positioner x) h
      placing-it None same there = absurd (cc)
      placing-it (Some at) same there = rw (← same) (refl, configuring-stands serial (Some at) (kept_changed (copying positioner) k) (popup_changed (copying positioner) x) h copied)
  repositioned false full false placed gives is = absurd (cc)
  repositioned false full true placed gives is = let same : ◌≡◌ {A = Option Placed} None placed = cc in rw (← same) (refl, copied)

reposition_stands : RepositionStands
reposition_stands positioner bounds parent_at serial where_to placed k x h p answer its there s =
    let is = sym (reposition_answers positioner bounds parent_at k x h p its s) ∙ answer in
    subst (λ (now : Option Placed). (is_some placed ≡ is_configured p) × Stands (kept_repositioning placed serial positioner k) (repositioning (is_configured p) serial now positioner x) h) (sym there)
    (repositioned positioner serial (place positioner bounds parent_at) k x h s (is_configured p) (is_full x.configures) (is_complete positioner) placed
    (places positioner.size positioner.anchor_rect positioner bounds parent_at) is)

pub changes_stand : ChangesStand
changes_stand = record {
  made = new_stands;
  toplevel = toplevel_stands;
  popup = popup_stands;
  changed = changed_stands;
  geometry = geometry_stands;
  acknowledgement = acknowledgement_stands;
  commit = commit_stands;
  configure = configure_stands;
  answered = reposition_answers;
  reposition = reposition_stands;
  destruction = destruction_stands;
  other = other_stands;
}
