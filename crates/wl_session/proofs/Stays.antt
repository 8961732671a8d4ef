-- What is right but for some clients stays so, one event at a time.
use Rattle.std.proofs.Common.{◌≡◌, ◌<◌, ℕ, Bool, true, false, List, [], ◌∷◌, Option, Some, None, refl, ap, sym, subst, ◌∙◌, get_or}
use Rattle.std.specs.Prelude.{ℤ, pos, ◌-ℤ◌, ◌==◌, ◌&&◌, ◌||◌, not, is_some, slice_get}
use Rattle.std.specs.List.{list_any}
use Rattle.std.proofs.lemmas.Bool.{eqb-true, false_from_ne_true}
use Rattle.std.proofs.lemmas.Option.{none-some, slice_get-get_or}
use Rattle.wl_blend.specs.declared.color.Rgb.{Rgb}
use Rattle.spec_desktop.specs.declared.cause.Cause.{Cause}
use Rattle.spec_desktop.specs.Told.{Output}
use Rattle.wl_geom.specs.Region.{holds}
use Rattle.wl_paint.specs.Damage.{has}
use Rattle.wl_paint.specs.Frame.{Image, color_at}
use Rattle.spec_desktop.specs.Windows.{Window, contains}
use Rattle.wl_surface.specs.State.{History}
use Rattle.wl_surface.specs.Surfaces.{history_in}
use Rattle.wl_clients.specs.Painting.{IsOpaqueAsSaid}
use Rattle.spec_desktop.specs.Act.{Act, Connect, Feed, Store, Leave, Tick, Send, Close, Motion, Button, IsClosed, closed_by}
use Rattle.spec_desktop.specs.declared.answers.Done.{Done}
use Rattle.spec_desktop.specs.declared.answers.Done.TheVariants as gave
use Rattle.spec_desktop.specs.Desktop.{Desktop, Resident, client_at, owned_in, owned_of}
use Rattle.spec_desktop.specs.Happenings.{Happening, Leads, Message, Receive, Single, Starve}
use Rattle.spec_desktop.specs.Happens.{ChangesThen}
use Rattle.spec_desktop.specs.Marks.{AreDistinct, in_output}
use Rattle.spec_desktop.specs.Moments.{marks_at_least}
use Rattle.spec_desktop.specs.Scratch.{color_in, scratch}
use Rattle.spec_desktop.specs.Stacked.{all_windows}
use Rattle.spec_desktop.specs.Through.{ending_through}
use Rattle.law_desktop.proofs.Marks.Through.{leads-output}
use Rattle.law_desktop.proofs.Runs.Places.{number-same}
use Rattle.law_desktop.proofs.Marks.ShownWindows.{IsShown as ShowsBuffer, all-shown}
use Rattle.law_desktop.proofs.Marks.Stacks.{same-number}
use Rattle.law_desktop.proofs.Truth.{and-left, and-right, differ, or-left, or-right}
use Rattle.law_desktop.proofs.Lists.Each.{each-map}
use Rattle.wl_clients.proofs.Away.{within-output}
use Rattle.wl_session.specs.Events.{Event, IsEvent, IsMarked, IsShown, Moment, PaintsIf, is_frame}
use Rattle.wl_session.specs.Liars.{HoldsLiars, IsRightBut, closes, gives_back, was_closed}
use Rattle.wl_session.specs.Promises.{KeepsIn, KeepsOpaque, is_clear_in}
use Rattle.wl_session.specs.Seen.{StaysRight}
use Rattle.wl_session.specs.Unmarked.{covers_at, is_covered}
use Rattle.wl_session.proofs.Promised.{promises_are_enough}
use Rattle.wl_session.proofs.StoreWrites.{any-none}
use Rattle.wl_session.proofs.Unmarked.{covered-still, none-at, none-kept, unmarked_stays}

-- ---- a client that isn't there has no window

no-history : (w : Window) (h : History) (d : Desktop) (c : ℕ) → client_at c d ≡ None → w.owner.client ≡ c → history_in w.surface (owned_in d w.owner.client).surfaces ≡ Some h → ⊥
no-history w h d c gone is there =
    let none : history_in w.surface (owned_in d w.owner.client).surfaces ≡ None = ap (λ (o : Option Resident). history_in w.surface (owned_of o).surfaces) (ap (λ n. client_at n d) is ∙ gone) in
    none-some h (sym none ∙ there)

pub no-window : (c : ℕ) (d : Desktop) → client_at c d ≡ None → list_any (λ (w : Window). w.owner.client == c) (all_windows d) ≡ false
no-window c d gone =
    any-none (λ (w : Window). w.owner.client == c) (all_windows d)
    (each-map (ShowsBuffer (owned_in d)) (λ w. (w.owner.client == c) ≡ false)
    (λ w shown. false_from_ne_true (w.owner.client == c) (λ e. no-history w shown.0 d c gone (eqb-true w.owner.client c e) shown.1)) (all_windows d) (all-shown d))

-- ---- numbers that are given back

module _ (k : ℕ) (d : Desktop) (path : List Desktop) (new : Desktop) (done : Done) (over : was_closed done ≡ true) where
  ended-goes : (o : Option Resident) → client_at k d ≡ o → ChangesThen IsClosed (gave.Close false) k o d done (ending_through path new) → client_at k new ≡ None
  ended-goes None there h = absurd (differ (sym (ap was_closed h.0) ∙ over))
  ended-goes (Some r) there (Some q, is, later) = absurd (by r.peer.status is.0 is.1)
    where
      by : (s : Option Cause) → Some q ≡ closed_by s r.peer → done ≡ gave.Close (is_some s) → ⊥
      by None f g = differ (sym (ap was_closed g) ∙ over)
      by (Some cause) f g = absurd (cc)
  ended-goes (Some r) there (None, is, later) =
      ap (λ (x : Desktop). client_at k x) later.2.1 ∙ number-same d.clients k None r there

closing : (act : Act) (done : Done) (c : ℕ) (d : Desktop) (path : List Desktop) (new : Desktop) → Leads (Single act done) d path new → closes act done c ≡ true
    → client_at c new ≡ None
closing Connect done c d path new h e = absurd (differ e)
closing (Feed client piece) done c d path new h e = absurd (differ e)
closing (Store client store at bytes) done c d path new h e = absurd (differ e)
closing (Leave client) done c d path new h e = absurd (differ e)
closing (Tick time) done c d path new h e = absurd (differ e)
closing (Send client count) done c d path new h e = absurd (differ e)
closing (Close client) done c d path new h e =
    subst (λ n. client_at n new ≡ None) (eqb-true client c (and-right (was_closed done) (client == c) e))
    (ended-goes client d path new done (and-left (was_closed done) (client == c) e) (client_at client d) refl h)
closing (Motion time x y) done c d path new h e = absurd (differ e)
closing (Button time button pressed) done c d path new h e = absurd (differ e)

pub given-back : (h : Happening) (c : ℕ) (d : Desktop) (path : List Desktop) (new : Desktop) → Leads h d path new → gives_back h c ≡ true → client_at c new ≡ None
given-back (Receive client piece) c d path new leads e = absurd (differ e)
given-back (Message client) c d path new leads e = absurd (differ e)
given-back (Starve client) c d path new leads e = absurd (differ e)
given-back (Single act done) c d path new leads e = closing act done c d path new leads e

-- ---- what is covered

abbrev pub both : (ℕ → Bool) → (ℕ → Bool) → ℕ → Bool
both before after c = before c || after c

head-clear : (b a k : Bool) → (a && k) ≡ false → (b ≡ true → a ≡ false → ⊥) → ((b || a) && k) ≡ false
head-clear true true k clear none = clear
head-clear true false k clear none = absurd (none refl refl)
head-clear false a k clear none = clear

-- a point that no window of a client of the later set covers isn't covered by one of the earlier either, if those that left the set have none
pub covers-both : (before after : ℕ → Bool) (x y : ℤ) (ws : List Window) → list_any (covers_at after x y) ws ≡ false
    → ((c : ℕ) → before c ≡ true → after c ≡ false → list_any (λ (w : Window). w.owner.client == c) ws ≡ false) → list_any (covers_at (both before after) x y) ws ≡ false
covers-both before after x y [] clear none = refl
covers-both before after x y (w ∷ ws) clear none =
    either-none (both before after w.owner.client && contains w x y) (list_any (covers_at (both before after) x y) ws)
    (head-clear (before w.owner.client) (after w.owner.client) (contains w x y) (or-left (after w.owner.client && contains w x y) _ clear)
    (λ b a. differ (sym (or-left (w.owner.client == w.owner.client) _ (none w.owner.client b a)) ∙ same-number w.owner.client)))
    (covers-both before after x y ws (or-right (after w.owner.client && contains w x y) _ clear) (λ c b a. or-right (w.owner.client == c) _ (none c b a)))
  where
    either-none : (a b : Bool) → a ≡ false → b ≡ false → (a || b) ≡ false
    either-none true b e f = absurd (differ (sym e))
    either-none false b e f = f

-- fewer clients cover less
pub covers-less : (less more : ℕ → Bool) (x y : ℤ) (ws : List Window) → ((c : ℕ) → more c ≡ false → less c ≡ false) → list_any (covers_at more x y) ws ≡ false
    → list_any (covers_at less x y) ws ≡ false
covers-less less more x y [] fewer clear = refl
covers-less less more x y (w ∷ ws) fewer clear =
    either-none (less w.owner.client && contains w x y) (list_any (covers_at less x y) ws)
    (first (less w.owner.client) (more w.owner.client) (contains w x y) (fewer w.owner.client) (or-left (more w.owner.client && contains w x y) _ clear))
    (covers-less less more x y ws fewer (or-right (more w.owner.client && contains w x y) _ clear))
  where
    either-none : (a b : Bool) → a ≡ false → b ≡ false → (a || b) ≡ false
    either-none true b e f = absurd (differ (sym e))
    either-none false b e f = f

    first : (l m k : Bool) → (m ≡ false → l ≡ false) → (m && k) ≡ false → (l && k) ≡ false
    first false m k fewer e = refl
    first true true k fewer e = e
    first true false k fewer e = absurd (differ (sym (fewer refl)))

pub right-less : (less more : ℕ → Bool) (m : Moment) → ((c : ℕ) → more c ≡ false → less c ≡ false) → IsRightBut less m → IsRightBut more m
right-less less more m fewer right = record {
  wide = right.wide;
  high = right.high;
  damage_wide = right.damage_wide;
  damage_high = right.damage_high;
  points = λ x y w h clean clear. right.points x y w h clean (covers-less less more (pos x) (pos y) (all_windows m.desktop) fewer clear);
}

-- ---- one event

or-none : (a b : Bool) → (a || b) ≡ false → b ≡ false
or-none true b e = absurd (differ (sym e))
or-none false b e = e

module _ (e : Event) (liars next : ℕ → Bool) (leads : Leads e.happening e.before.desktop e.path e.after.desktop)
    (apart : AreDistinct (all_windows e.before.desktop) × AreDistinct (all_windows e.after.desktop)) (broke : HoldsLiars e liars next) (right : IsRightBut liars e.before) where
  abbrev old : Desktop
  old = e.before.desktop

  abbrev new : Desktop
  new = e.after.desktop

  same-output : new.output ≡ old.output
  same-output = leads-output e.happening old e.path new leads

  inside : (x y : ℕ) → x < old.output.width → y < old.output.height → in_output old.output.width old.output.height (pos x) (pos y) ≡ true
  inside x y w h = within-output old.output.width old.output.height x y w h

  -- At a point that isn't marked and that those don't cover afterwards, nobody covered it before, and the desktop looks as before.
  covered-none : (x y : ℕ) → is_covered all_windows next new (pos x) (pos y) ≡ false → is_covered all_windows (both liars next) new (pos x) (pos y) ≡ false
  covered-none x y clear =
      covers-both liars next (pos x) (pos y) (all_windows new) clear (λ c b a. no-window c new (given-back e.happening c old e.path new leads ((broke c a).1 b)))

  covered-before : (x y : ℕ) → x < old.output.width → y < old.output.height → marks_at_least old new (pos x) (pos y) ≡ false → is_covered all_windows next new (pos x) (pos y) ≡ false
      → is_covered all_windows (both liars next) old (pos x) (pos y) ≡ false
  covered-before x y w h unmarked clear =
      covered-still all_windows (both liars next) old new (pos x) (pos y) (inside x y w h) unmarked (covered-none x y clear)

  looks-same : (background : Rgb) (x y : ℕ) → x < old.output.width → y < old.output.height → marks_at_least old new (pos x) (pos y) ≡ false → is_covered all_windows next new (pos x) (pos y) ≡ false
      → scratch background old (pos x) (pos y) ≡ scratch background new (pos x) (pos y)
  looks-same background x y w h unmarked clear =
      unmarked_stays all_windows (both liars next) background old new (pos x) (pos y) apart
      (promises_are_enough (both liars next) e.happening old e.path new leads (λ c honest. (broke c (or-none (liars c) (next c) honest)).0))
      (inside x y w h) unmarked (covered-before x y w h unmarked clear) (covered-none x y clear)

  was-clear : (x y : ℕ) → is_covered all_windows (both liars next) old (pos x) (pos y) ≡ false → is_covered all_windows liars old (pos x) (pos y) ≡ false
  was-clear x y clear = covers-less liars (both liars next) (pos x) (pos y) (all_windows old) (λ c none. by (liars c) (next c) none) clear
    where
      by : (a b : Bool) → (a || b) ≡ false → a ≡ false
      by true b e = absurd (differ (sym e))
      by false b e = refl

  marked-right : IsMarked e.happening e.before e.path e.after → IsRightBut next e.after
  marked-right marked = record {
    wide = ap (λ (i : Image). i.width) marked.frame ∙ (right.wide ∙ ap (λ (o : Output). o.width) (sym same-output));
    high = ap (λ (i : Image). i.height) marked.frame ∙ (right.high ∙ ap (λ (o : Output). o.height) (sym same-output));
    damage_wide = marked.sides.width ∙ (right.damage_wide ∙ ap (λ (o : Output). o.width) (sym same-output));
    damage_high = marked.sides.height ∙ (right.damage_high ∙ ap (λ (o : Output). o.height) (sym same-output));
    points = λ x y w h clean clear.
        let wide : x < old.output.width = subst (λ (o : Output). x < o.width) same-output w in
        let high : y < old.output.height = subst (λ (o : Output). y < o.height) same-output h in
        let damage_wide : x < e.before.damage.width = rw right.damage_wide wide in
        let damage_high : y < e.before.damage.height = rw right.damage_high high in
        let was = marked.marks x y damage_wide damage_high clean in
        ap (λ (i : Image). color_at i x y) marked.frame
        ∙ (right.points x y wide high was.0 (was-clear x y (covered-before x y wide high was.1 clear))
        ∙ (looks-same e.before.frame.background x y wide high was.1 clear
        ∙ ap (λ (i : Image). scratch i.background new (pos x) (pos y)) (sym marked.frame)));
  }

  -- ---- a frame

  -- where the windows that contain a point are of clients that keep their promises, each is opaque there as it says
  opaque-there : ((c : ℕ) → next c ≡ false → KeepsOpaque all_windows old c) → (x y : ℤ) → is_covered all_windows next old x y ≡ false → IsOpaqueAsSaid old x y
  opaque-there keeps x y clear k d within said =
      let w : Window = get_or (all_windows old) k d in
      let there : slice_get (all_windows old) k ≡ Some w = slice_get-get_or (all_windows old) k d within in
      let here : contains w x y ≡ true = and-left (contains w x y) _ said in
      let honest : next w.owner.client ≡ false = alone (next w.owner.client) (contains w x y) (none-at (covers_at next x y) (all_windows old) k w there clear) here in
      let unfeigned : is_clear_in old x y w ≡ false =
      none-kept (λ v. v.owner.client == w.owner.client) (is_clear_in old x y) (all_windows old) k w there (same-number w.owner.client) (keeps w.owner.client honest x y) in
      eqb-true (color_in old w x y).a 255 (seen (contains w x y) (holds (x -ℤ w.corner.x) (y -ℤ w.corner.y) w.opaque) ((color_in old w x y).a == 255) unfeigned said)
    where
      alone : (a b : Bool) → (a && b) ≡ false → b ≡ true → a ≡ false
      alone true b e f = absurd (differ (sym e ∙ f))
      alone false b e f = refl

      seen : (a b s : Bool) → (a && (b && not s)) ≡ false → (a && b) ≡ true → s ≡ true
      seen a b true e f = refl
      seen true true false e f = absurd (differ (sym e))
      seen true false false e f = absurd (differ f)
      seen false b false e f = absurd (differ f)

  -- the frame is the desktop as it began, painted from nothing
  pub frame-right : ((c : ℕ) → next c ≡ false → KeepsOpaque all_windows old c) → IsShown e.before e.path e.after → (x y : ℕ) → x < old.output.width → y < old.output.height
      → is_covered all_windows (both liars next) old (pos x) (pos y) ≡ false → color_at e.after.frame x y ≡ scratch e.before.frame.background old (pos x) (pos y)
  frame-right keeps shown x y w h clear = at (has e.before.damage x y) refl
    where
      wide : x < e.before.frame.width
      wide = rw right.wide w

      high : y < e.before.frame.height
      high = rw right.high h

      later : is_covered all_windows next old (pos x) (pos y) ≡ false
      later = covers-less next (both liars next) (pos x) (pos y) (all_windows old) (λ c none. or-none (liars c) (next c) none) clear

      at : (b : Bool) → has e.before.damage x y ≡ b → color_at e.after.frame x y ≡ scratch e.before.frame.background old (pos x) (pos y)
      at true is = shown.frame.painted x y wide high is (opaque-there keeps (pos x) (pos y) later)
      at false is = shown.frame.kept x y wide high is ∙ right.points x y w h is (was-clear x y clear)

  shown-right : ((c : ℕ) → next c ≡ false → KeepsOpaque all_windows old c) → IsShown e.before e.path e.after → IsRightBut next e.after
  shown-right keeps shown = record {
    wide = shown.frame.large.width ∙ (right.wide ∙ ap (λ (o : Output). o.width) (sym same-output));
    high = shown.frame.large.height ∙ (right.high ∙ ap (λ (o : Output). o.height) (sym same-output));
    damage_wide = shown.sides.width ∙ (right.damage_wide ∙ ap (λ (o : Output). o.width) (sym same-output));
    damage_high = shown.sides.height ∙ (right.damage_high ∙ ap (λ (o : Output). o.height) (sym same-output));
    points = λ x y w h clean clear.
        let wide : x < old.output.width = subst (λ (o : Output). x < o.width) same-output w in
        let high : y < old.output.height = subst (λ (o : Output). y < o.height) same-output h in
        let damage_wide : x < e.before.damage.width = rw right.damage_wide wide in
        let damage_high : y < e.before.damage.height = rw right.damage_high high in
        let unmarked = shown.marks x y damage_wide damage_high clean in
        frame-right keeps shown x y wide high (covered-before x y wide high unmarked clear)
        ∙ (looks-same e.before.frame.background x y wide high unmarked clear ∙ ap (λ (b : Rgb). scratch b new (pos x) (pos y)) (sym shown.frame.large.background));
  }

-- in a tick those that keep their promises call only opaque pixels opaque
pub keeps-opaque : (h : Happening) (old new : Desktop) (c : ℕ) → is_frame h ≡ true → KeepsIn all_windows h old new c → KeepsOpaque all_windows old c
keeps-opaque (Receive client piece) old new c e keeps = absurd (differ e)
keeps-opaque (Message client) old new c e keeps = absurd (differ e)
keeps-opaque (Starve client) old new c e keeps = absurd (differ e)
keeps-opaque (Single Connect done) old new c e keeps = absurd (differ e)
keeps-opaque (Single (Feed client piece) done) old new c e keeps = absurd (differ e)
keeps-opaque (Single (Store client store at bytes) done) old new c e keeps = absurd (differ e)
keeps-opaque (Single (Leave client) done) old new c e keeps = absurd (differ e)
keeps-opaque (Single (Tick time) done) old new c e keeps = keeps.1
keeps-opaque (Single (Send client count) done) old new c e keeps = absurd (differ e)
keeps-opaque (Single (Close client) done) old new c e keeps = absurd (differ e)
keeps-opaque (Single (Motion time x y) done) old new c e keeps = absurd (differ e)
keeps-opaque (Single (Button time button pressed) done) old new c e keeps = absurd (differ e)

pub event-right : (e : Event) (liars next : ℕ → Bool) → IsEvent e → AreDistinct (all_windows e.before.desktop) × AreDistinct (all_windows e.after.desktop)
    → HoldsLiars e liars next
    → IsRightBut liars e.before → IsRightBut next e.after
event-right e liars next is apart broke right = by (is_frame e.happening) refl is.paints
  where
    by : (b : Bool) → is_frame e.happening ≡ b → PaintsIf b e.happening e.before e.path e.after → IsRightBut next e.after
    by true f shown = shown-right e liars next is.leads apart broke right (λ c honest. keeps-opaque e.happening e.before.desktop e.after.desktop c f (broke c honest).0) shown
    by false f marked = marked-right e liars next is.leads apart broke right marked

-- ---- many events

pub stays_right : StaysRight
stays_right from to [] liars last apart leads broke right = subst (λ (m : Moment). IsRightBut last m) (sym leads) (right-less liars last from broke right)
stays_right from to (e ∷ es) liars last apart leads broke right =
    let began : IsRightBut liars e.before = subst (λ (m : Moment). IsRightBut liars m) (sym leads.0) right in
    stays_right e.after to es broke.0 last apart.2 leads.2 broke.2 (event-right e liars broke.0 leads.1 (apart.0, apart.1) broke.1 began)
