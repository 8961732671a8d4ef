-- Which buffers are released: none where each busy one stays so, and where surfaces stay as they are.
use Rattle.std.proofs.Common.{Bool, List, None, Option, Some, [], ap, append-nil, cond, eq-eqb, false, length, map, refl, subst, sym, true, ℕ, ◌++◌, ◌∙◌, ◌∷◌, ◌≡◌, ◌≤◌}
use Rattle.std.specs.Prelude.{◌==◌, ◌&&◌, ◌||◌, not, flat_map, fold}
use Rattle.std.specs.List.{list_any}
use Rattle.std.specs.Option.{option_map}
use Rattle.std.proofs.lemmas.Bool.{or_left, or_right}
use Rattle.wl_proto.specs.declared.interface.Interface.TheVariants.{WlBuffer}
use Rattle.wl_proto.specs.Messages.{says}
use Rattle.spec_desktop.specs.Buffers.{Buffer as Made}
use Rattle.spec_desktop.specs.Told.{Said, said}
use Rattle.wl_surface.specs.Request.{Buffer, Request}
use Rattle.wl_surface.specs.State.{History, applied, committed, held, is_commit, values}
use Rattle.wl_surface.specs.Surface.{Surface, asking, listed, names, new_surface, shows, with_role}
use Rattle.wl_surface.specs.Surfaces.{Surfaces, is_busy, surface_at, with_change}
use Rattle.wl_surface.specs.declared.role.Role.{Role}
use Rattle.wl_surface.specs.declared.role.Role.TheVariants.{Toplevel as AsToplevel}
use Rattle.wl_surface.proofs.Records.{applied-kept, held-kept}
use Rattle.wl_shell.specs.Shell.{XdgSurface as Xdg, xdg_at}
use Rattle.spec_desktop.specs.Ask.{Ask, Own, CreateSurface, AskSurface, EndObject, GetXdgSurface, DestroyXdgSurface, GetToplevel, Acknowledge, ConfigureAgain, Ignore}
use Rattle.spec_desktop.specs.Desktop.{Resident}
use Rattle.law_desktop.specs.Apart.{AreApartBy}
use Rattle.spec_desktop.specs.Releases.{is_released}
use Rattle.spec_desktop.specs.Replies.{buffers_busy, buffers_shown, by_object, is_same_buffer, releases}
use Rattle.spec_desktop.specs.Step.{answers_to, changed_by, toplevel_given, with_surfaces}
use Rattle.law_desktop.proofs.KeptRecords.Keeping.Letting.{each-once, listed-each, named-so}
use Rattle.law_desktop.proofs.Lists.Keys.{any-found, found-any, found-map}
use Rattle.law_desktop.proofs.KeptRecords.Toplevels.Simply.{told_alone}
use Rattle.law_desktop.proofs.Lists.Each.{Each, each-append, each-map}
use Rattle.law_desktop.proofs.Truth.{or-true}
use Rattle.law_desktop.proofs.Lists.Left.{filter-none-each}

-- ---- the buffers that are busy

-- a surface shows each of them
shown-each : (h : History) → Each (λ b. shows b.number h ≡ true) (buffers_shown h)
shown-each h =
    each-append Shown (listed (held h).buffer) (listed (applied h).buffer)
    (listed-each Shown (held h).buffer (λ b e. ap (λ x. names b.number (applied h).buffer || x) (ap (names b.number) e ∙ named-so b) ∙ or-true (names b.number (applied h).buffer)))
    (listed-each Shown (applied h).buffer (λ b e. ap (λ x. x || names b.number (held h).buffer) (ap (names b.number) e ∙ named-so b)))
  where
    Shown : Buffer → Type 0
    Shown b = shows b.number h ≡ true

abbrev any_shows : ℕ → List Surface → Bool
any_shows n ss = list_any (λ s. shows n s.history) ss

all-busy : (ss : List Surface) → Each (λ b. any_shows b.number ss ≡ true) (flat_map (λ s. buffers_shown s.history) ss)
all-busy [] = tt
all-busy (s ∷ ss) =
    each-append (λ b. any_shows b.number (s ∷ ss) ≡ true) (buffers_shown s.history) (flat_map (λ s. buffers_shown s.history) ss)
    (each-map (λ b. shows b.number s.history ≡ true) (λ b. any_shows b.number (s ∷ ss) ≡ true) (λ b is. or_left (shows b.number s.history) (any_shows b.number ss) is) (buffers_shown s.history)
    (shown-each s.history))
    (each-map (λ b. any_shows b.number ss ≡ true) (λ b. any_shows b.number (s ∷ ss) ≡ true) (λ b is. or_right (shows b.number s.history) (any_shows b.number ss) is)
    (flat_map (λ s. buffers_shown s.history) ss)
    (all-busy ss))

-- one that is busy isn't released
pub busy-stays : (r : Resident) (b : Buffer) → is_busy b.number r.owned.surfaces ≡ true → is_released r b ≡ false
busy-stays r b busy = ap (λ u. not u && is_same_buffer b.number (option_map (λ (made : Made). made.number) (r.peer.buffers b.object))) busy

-- those that are released, in their order
abbrev told_of : List Buffer → List Said
told_of bs = map (λ b. said b.object (says WlBuffer 0 [])) (fold (λ bs b. by_object b bs) [] bs)

-- ---- where each that is busy stays so

pub none-released : (old new : Resident) → ((n : ℕ) → is_busy n old.owned.surfaces ≡ true → is_busy n new.owned.surfaces ≡ true) → releases old new ≡ []
none-released old new stays =
    ap told_of
    (filter-none-each (is_released new) (buffers_busy old.owned.surfaces)
    (each-map (λ b. is_busy b.number old.owned.surfaces ≡ true) (λ b. is_released new b ≡ false) (λ b busy. busy-stays new b (stays b.number busy)) (buffers_busy old.owned.surfaces)
    (each-once (λ b. is_busy b.number old.owned.surfaces ≡ true) (flat_map (λ s. buffers_shown s.history) old.owned.surfaces.surfaces) (all-busy old.owned.surfaces.surfaces))))

pub still-released : (old new : Resident) → new.owned.surfaces ≡ old.owned.surfaces → releases old new ≡ []
still-released old new same = none-released old new (λ n busy. ap (is_busy n) same ∙ busy)

-- a surface changes, and still shows what it showed
changed-busy : (id : ℕ) (change : Surface → Surface) (n : ℕ) (all : Surfaces) → AreApartBy (λ key s. s.id == key) all.surfaces → ((x : Surface) → (change x).id ≡ x.id)
    → ((x : Surface) → surface_at id all ≡ Some x → shows n x.history ≡ true → shows n (change x).history ≡ true) → is_busy n all ≡ true → is_busy n (with_change id change all) ≡ true
changed-busy id change n all apart keeps shown busy =
    let found = any-found (λ key s. s.id == key) (λ s. shows n s.history) all.surfaces apart busy in
    let x = found.0 in
    let there = found.2 x.id (eq-eqb x.id x.id refl) in
    found-any (λ y. y.id == x.id) (λ y. shows n y.history) (map one all.surfaces) (one x)
    (found-map (λ y. y.id == x.id) one all.surfaces (λ y. ap (λ i. i == x.id) (one-id y (y.id == id))) ∙ ap (λ o. option_map one o) there)
    (at x found.1 (λ e. found.2 id e) (x.id == id) refl)
  where
    one : Surface → Surface
    one x = cond (x.id == id) (change x) x

    one-id : (x : Surface) (b : Bool) → (cond b (change x) x).id ≡ x.id
    one-id x true = keeps x
    one-id x false = refl

    at : (x : Surface) → shows n x.history ≡ true → ((x.id == id) ≡ true → surface_at id all ≡ Some x) → (b : Bool) → (x.id == id) ≡ b → shows n (cond b (change x) x).history ≡ true
    at x is there true e = shown x (there e) is
    at x is there false e = is

any-more : (p : Surface → Bool) (xs ys : List Surface) → list_any p xs ≡ true → list_any p (xs ++ ys) ≡ true
any-more p [] ys any = absurd (cc)
any-more p (x ∷ xs) ys any = at (p x) any (λ more. any-more p xs ys more)
  where
    at : (b : Bool) → (b || list_any p xs) ≡ true → (list_any p xs ≡ true → list_any p (xs ++ ys) ≡ true) → (b || list_any p (xs ++ ys)) ≡ true
    at true any more = refl
    at false any more = more any

given-busy : (id xdg : ℕ) (o : Option Xdg) (r : Resident) → AreApartBy (λ key s. s.id == key) r.owned.surfaces.surfaces → (n : ℕ) → is_busy n r.owned.surfaces ≡ true
    → is_busy n (toplevel_given id xdg o r).owned.surfaces ≡ true
given-busy id xdg None r apart n busy = busy
given-busy id xdg (Some x) r apart n busy = changed-busy x.surface (with_role AsToplevel) n r.owned.surfaces apart (λ y. refl) (λ y e is. is) busy

-- a surface that gets a role shows what it showed
pub role-released : (id : ℕ) (role : Role) (r : Resident) → AreApartBy (λ key s. s.id == key) r.owned.surfaces.surfaces
    → releases r (with_surfaces (with_change id (with_role role) r.owned.surfaces) r) ≡ []
role-released id role r apart =
    none-released r (with_surfaces (with_change id (with_role role) r.owned.surfaces) r)
    (λ n busy. changed-busy id (with_role role) n r.owned.surfaces apart (λ y. refl) (λ y e is. is) busy)

only : (told more : List Said) → more ≡ [] → told ++ more ≡ told
only told more none = ap (λ (es : List Said). told ++ es) none ∙ append-nil told

-- what is asked but of a surface leaves each busy buffer so
pub asked-told : (ask : Ask) (r : Resident) → AreApartBy (λ key s. s.id == key) r.owned.surfaces.surfaces → answers_to ask r ++ releases r (changed_by ask r) ≡ told_alone ask r
asked-told (AskSurface id request) r apart = refl
asked-told (Own action) r apart = only (answers_to (Own action) r) (releases r (changed_by (Own action) r)) (still-released r (changed_by (Own action) r) refl)
asked-told (CreateSurface id version) r apart = none-released r (changed_by (CreateSurface id version) r) (λ n busy. any-more (λ s. shows n s.history) r.owned.surfaces.surfaces
    (new_surface id ∷ []) busy)
asked-told (EndObject id) r apart = only (answers_to (EndObject id) r) (releases r (changed_by (EndObject id) r)) (still-released r (changed_by (EndObject id) r) refl)
asked-told (GetXdgSurface id version base surface) r apart = still-released r (changed_by (GetXdgSurface id version base surface) r) refl
asked-told (DestroyXdgSurface id) r apart = only (answers_to (DestroyXdgSurface id) r) (releases r (changed_by (DestroyXdgSurface id) r))
    (still-released r (changed_by (DestroyXdgSurface id) r) refl)
asked-told (GetToplevel id version xdg) r apart = none-released r (changed_by (GetToplevel id version xdg) r) (λ n busy. given-busy id xdg (xdg_at xdg r.owned.shell) r apart n busy)
asked-told (Acknowledge xdg serial) r apart = still-released r (changed_by (Acknowledge xdg serial) r) refl
asked-told (ConfigureAgain xdg) r apart = only (answers_to (ConfigureAgain xdg) r) (releases r (changed_by (ConfigureAgain xdg) r))
    (still-released r (changed_by (ConfigureAgain xdg) r) refl)
asked-told Ignore r apart = still-released r (changed_by Ignore r) refl

-- a request of a surface that is no commit leaves it what it shows
still-shows : (request : Request) → is_commit request ≡ false → (n : ℕ) (s : Surface) → s.history.cut ≤ committed s.history.requests → committed s.history.requests ≤ length s.history.requests
    → shows n (asking request s).history ≡ shows n s.history
still-shows request plain n s cut within =
    ap (λ (rs : List Request). names n (values rs).buffer || names n (held (asking request s).history).buffer) (applied-kept s.history request cut within)
    ∙ ap (λ (rs : List Request). names n (applied s.history).buffer || names n (values rs).buffer) (held-kept s.history.requests request plain within)

pub requested-still : (id : ℕ) (request : Request) → is_commit request ≡ false → (r : Resident) (s : Surface) → AreApartBy (λ key s. s.id == key) r.owned.surfaces.surfaces
    → surface_at id r.owned.surfaces ≡ Some s
    → s.history.cut ≤ committed s.history.requests → committed s.history.requests ≤ length s.history.requests → releases r (changed_by (AskSurface id request) r) ≡ []
requested-still id request plain r s apart there cut within =
    none-released r (changed_by (AskSurface id request) r) (λ n busy. changed-busy id (asking request) n r.owned.surfaces apart (λ x. refl) (λ x e is. at n x e is) busy)
  where
    at : (n : ℕ) (x : Surface) → surface_at id r.owned.surfaces ≡ Some x → shows n x.history ≡ true → shows n (asking request x).history ≡ true
    at n x e is =
        let same : x ≡ s = let both : Option.Some x ≡ Some s = sym e ∙ there in cc in
        subst (λ (y : Surface). shows n y.history ≡ true → shows n (asking request y).history ≡ true) (sym same) (λ shown. still-shows request plain n s cut within ∙ shown) is
