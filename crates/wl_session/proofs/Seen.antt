-- A viewer that copies only what each frame reports sees the desktop painted from nothing.
use Rattle.std.proofs.Common.{◌≡◌, ◌<◌, ℕ, Bool, true, false, List, [], ◌∷◌, ◌++◌, refl, ap, sym, subst, ◌∙◌, length, take}
use Rattle.std.specs.Prelude.{pos, ◌+◌, ◌*◌, ◌||◌, cond, fold}
use Rattle.wl_blend.specs.Blend.{color_of}
use Rattle.wl_blend.specs.declared.color.Rgb.{Rgb}
use Rattle.wl_paint.specs.Frame.{Image, color_at}
use Rattle.spec_desktop.specs.Happenings.{Happening, Message, Receive, Single, Starve}
use Rattle.spec_desktop.specs.Act.{Connect, Feed, Store, Leave, Tick, Send, Close, Motion, Button}
use Rattle.spec_desktop.specs.Marks.{AreDistinct}
use Rattle.spec_desktop.specs.Scratch.{scratch}
use Rattle.spec_desktop.specs.Stacked.{all_windows}
use Rattle.law_desktop.proofs.Soundness.Within.{leads-orderly}
use Rattle.law_desktop.proofs.Soundness.Orderly.{AreOrderly}
use Rattle.law_desktop.proofs.Soundness.Run.{empty-orderly}
use Rattle.law_desktop.proofs.Soundness.RunIsSound.{orderly-is-sound}
use Rattle.law_desktop.proofs.Soundness.Windows.{sound_is_distinct}
use Rattle.law_desktop.proofs.Truth.{differ}
use Rattle.wl_session.specs.Events.{AreApart, AreEvents, Event, IsEvent, IsMarked, IsShown, Moment, PaintsIf, frames_of, is_frame}
use Rattle.wl_session.specs.Liars.{AreLiars, HoldsLiars, IsRightBut, gives_back}
use Rattle.wl_session.specs.Run.{Film, in_runs}
use Rattle.wl_session.specs.Seen.{AreShots, Holds, IsShot, SeenIsScratch, SeesScratch, seen_after}
use Rattle.wl_session.specs.Unmarked.{is_covered}
use Rattle.wl_session.specs.Viewer.{Sight, copied}
use Rattle.wl_session.proofs.Stays.{both, covers-less, event-right, frame-right, keeps-opaque}

-- ---- no surface has two windows in what happens from a desktop without clients on

events-apart : (from to : Moment) (events : List Event) → AreOrderly from.desktop → AreEvents from events to → AreApart events
events-apart from to [] known leads = tt
events-apart from to (e ∷ es) known leads =
    let began : AreOrderly e.before.desktop = subst (λ (m : Moment). AreOrderly m.desktop) (sym leads.0) known in
    let later : AreOrderly e.after.desktop = leads-orderly e.happening e.before.desktop e.path e.after.desktop began leads.1.leads in (
      sound_is_distinct e.before.desktop (orderly-is-sound e.before.desktop began),
      sound_is_distinct e.after.desktop (orderly-is-sound e.after.desktop later),
      events-apart e.after to es later leads.2,
    )

-- ---- a tick gives no number back

no-number : (h : Happening) (c : ℕ) → is_frame h ≡ true → gives_back h c ≡ true → ⊥
no-number (Receive client piece) c e f = differ e
no-number (Message client) c e f = differ e
no-number (Starve client) c e f = differ e
no-number (Single Connect done) c e f = differ e
no-number (Single (Feed client piece) done) c e f = differ e
no-number (Single (Store client store at bytes) done) c e f = differ e
no-number (Single (Leave client) done) c e f = differ e
no-number (Single (Tick time) done) c e f = differ f
no-number (Single (Send client count) done) c e f = differ e
no-number (Single (Close client) done) c e f = differ e
no-number (Single (Motion time x y) done) c e f = differ e
no-number (Single (Button time button pressed) done) c e f = differ e

-- so its liars are still some
still-liars : (e : Event) (liars next : ℕ → Bool) → is_frame e.happening ≡ true → HoldsLiars e liars next → (c : ℕ) → next c ≡ false → (liars c || next c) ≡ false
still-liars e liars next tick broke c honest = by (liars c) refl
  where
    by : (b : Bool) → liars c ≡ b → (b || next c) ≡ false
    by true f = absurd (no-number e.happening c tick ((broke c honest).1 f))
    by false f = honest

-- ---- one frame is copied

-- what is copied of a report is what the frame has
copied-holds : (e : Event) (film : Film) (sight : Sight) → IsShown e.before e.path e.after → IsShot e film → Holds sight e.before.frame → Holds (copied e.before.frame.width sight film) e.after.frame
copied-holds e film sight shown shot held x y w h = at (in_runs film.runs x y) refl
  where
    wide : x < e.before.frame.width
    wide = rw (← shown.frame.large.width) w

    high : y < e.before.frame.height
    high = rw (← shown.frame.large.height) h

    at : (b : Bool) → in_runs film.runs x y ≡ b → cond b (color_of film.pixels (y * e.before.frame.width + x)) (sight x y) ≡ color_at e.after.frame x y
    at true is = rw (shot.pixels, shown.frame.large.width) refl
    at false is = held x y wide high ∙ sym (shown.frame.kept x y wide high (sym (shot.runs.points x y wide high) ∙ is))

-- ---- many events

module _ (width height : ℕ) (background : Rgb) (to : Moment) where
  -- the frame of a moment is of this kind
  record IsOf (image : Image) : Type 0 where
    wide : image.width ≡ width
    high : image.height ≡ height
    over : image.background ≡ background

  of-next : (e : Event) → IsOf e.before.frame → (b : Bool) → PaintsIf b e.happening e.before e.path e.after → IsOf e.after.frame
  of-next e is true shown = record {
    wide = shown.frame.large.width ∙ is.wide;
    high = shown.frame.large.height ∙ is.high;
    over = shown.frame.large.background ∙ is.over;
  }
  of-next e is false marked = record {
    wide = ap (λ (i : Image). i.width) marked.frame ∙ is.wide;
    high = ap (λ (i : Image). i.height) marked.frame ∙ is.high;
    over = ap (λ (i : Image). i.background) marked.frame ∙ is.over;
  }

  -- What a viewer holds after a frame, where it held the one before and what is right but for some clients was so.
  sees-frame : (frame : Event) (later : List Event) (films : List Film) (liars broke : ℕ → Bool) (sight : Sight) (x y : ℕ) → IsEvent frame
      → AreDistinct (all_windows frame.before.desktop) × AreDistinct (all_windows frame.after.desktop) → is_frame frame.happening ≡ true
      → AreShots (frame ∷ frames_of later) films → HoldsLiars frame liars broke → IsRightBut liars frame.before → Holds sight frame.before.frame → IsOf frame.before.frame
      → x < width → y < height → is_covered all_windows broke frame.before.desktop (pos x) (pos y) ≡ false
      → fold (copied width) sight (take 1 films) x y ≡ scratch background frame.before.desktop (pos x) (pos y)
  sees-frame frame later [] liars broke sight x y is apart tick shots holds right held kind w h clear = absurd shots
  sees-frame frame later (film ∷ films) liars broke sight x y is apart tick shots holds right held kind w h clear =
      let shown : IsShown frame.before frame.path frame.after = subst (λ b. PaintsIf b frame.happening frame.before frame.path frame.after) tick is.paints in
      let copies = copied-holds frame film sight shown shots.0 held x y (rw (shown.frame.large.width, kind.wide) w) (rw (shown.frame.large.height, kind.high) h) in
      let right_there = frame-right frame liars broke is.leads apart holds right
      (λ c honest. keeps-opaque frame.happening frame.before.desktop frame.after.desktop c tick (holds c honest).0) shown x y
      (rw (← right.wide, kind.wide) w) (rw (← right.high, kind.high) h)
      (covers-less (both liars broke) broke (pos x) (pos y) (all_windows frame.before.desktop) (still-liars frame liars broke tick holds) clear) in
      ap (λ n. copied n sight film x y) (sym kind.wide) ∙ (copies ∙ (right_there ∙ ap (λ (b : Rgb). scratch b frame.before.desktop (pos x) (pos y)) kind.over))

  -- the same of each frame, after what came before it
  sees-each : (before : List Event) (frame : Event) (later : List Event) (from : Moment) (films : List Film) (liars broke : ℕ → Bool) (sight : Sight) (x y : ℕ)
      → AreEvents from (before ++ frame ∷ later) to → AreApart (before ++ frame ∷ later) → is_frame frame.happening ≡ true
      → AreShots (frames_of (before ++ frame ∷ later)) films → AreLiars liars (before ++ frame ∷ []) broke → IsRightBut liars from → Holds sight from.frame → IsOf from.frame
      → x < width → y < height → is_covered all_windows broke frame.before.desktop (pos x) (pos y) ≡ false
      → fold (copied width) sight (take (length (frames_of (before ++ frame ∷ []))) films) x y ≡ scratch background frame.before.desktop (pos x) (pos y)
  sees-each [] frame later from films liars broke sight x y leads apart tick shots holds right held kind w h clear =
      let began : Moment → Type 0 = λ m. IsRightBut liars m × Holds sight m.frame × IsOf m.frame in
      let at : IsRightBut liars frame.before × Holds sight frame.before.frame × IsOf frame.before.frame = subst began (sym leads.0) (right, held, kind) in
      let more : (c : ℕ) → broke c ≡ false → holds.0 c ≡ false = holds.2 in
      let those : HoldsLiars frame liars broke = λ c honest. holds.1 c (more c honest) in
      let all : AreShots (frame ∷ frames_of later) films = rw tick at shots in
      rw tick (sees-frame frame later films liars broke sight x y leads.1 (apart.0, apart.1) tick all those at.0 at.1 at.2 w h clear)
  sees-each (e ∷ es) frame later from films liars broke sight x y leads apart tick shots holds right held kind w h clear =
      let began : IsRightBut liars e.before × Holds sight e.before.frame × IsOf e.before.frame =
      subst (λ (m : Moment). IsRightBut liars m × Holds sight m.frame × IsOf m.frame) (sym leads.0) (right, held, kind) in
      let after : IsRightBut holds.0 e.after = event-right e liars holds.0 leads.1 (apart.0, apart.1) holds.1 began.0 in
      let kind_after : IsOf e.after.frame = of-next e began.2 (is_frame e.happening) leads.1.paints in
      by began
      (λ films sight held shots. sees-each es frame later e.after films holds.0 broke sight x y leads.2 apart.2 tick shots holds.2 after held kind_after w h clear)
      (is_frame e.happening) refl films shots
    where
      by : IsRightBut liars e.before × Holds sight e.before.frame × IsOf e.before.frame
          → ((films : List Film) (sight : Sight) → Holds sight e.after.frame → AreShots (frames_of (es ++ frame ∷ later)) films
          → fold (copied width) sight (take (length (frames_of (es ++ frame ∷ []))) films) x y ≡ scratch background frame.before.desktop (pos x) (pos y))
          → (b : Bool) → is_frame e.happening ≡ b → (films : List Film) → AreShots (cond b (e ∷ frames_of (es ++ frame ∷ later)) (frames_of (es ++ frame ∷ later))) films
          → fold (copied width) sight (take (length (cond b (e ∷ frames_of (es ++ frame ∷ [])) (frames_of (es ++ frame ∷ [])))) films) x y ≡ scratch background frame.before.desktop (pos x) (pos y)
      by began rest true is [] shots = absurd shots
      by began rest true is (film ∷ films) shots =
          let shown : IsShown e.before e.path e.after = subst (λ b. PaintsIf b e.happening e.before e.path e.after) is leads.1.paints in
          rest films (copied width sight film) (subst (λ n. Holds (copied n sight film) e.after.frame) began.2.wide (copied-holds e film sight shown shots.0 began.1)) shots.1
      by began rest false is films shots =
          let marked : IsMarked e.happening e.before e.path e.after = subst (λ b. PaintsIf b e.happening e.before e.path e.after) is leads.1.paints in
          rest films sight (subst (λ (i : Image). Holds sight i) (sym marked.frame) began.1) shots

  -- a viewer that held the first frame holds the last one
  holds-last : (events : List Event) (from : Moment) (films : List Film) (sight : Sight) → AreEvents from events to → AreShots (frames_of events) films → Holds sight from.frame → IsOf from.frame
      → Holds (fold (copied width) sight (take (length (frames_of events)) films)) to.frame
  holds-last [] from films sight leads shots held kind = subst (λ (m : Moment). Holds sight m.frame) (sym leads) held
  holds-last (e ∷ es) from films sight leads shots held kind =
      let began : Holds sight e.before.frame × IsOf e.before.frame = subst (λ (m : Moment). Holds sight m.frame × IsOf m.frame) (sym leads.0) (held, kind) in
      let kind_after : IsOf e.after.frame = of-next e began.1 (is_frame e.happening) leads.1.paints in
      by began (λ films sight held shots. holds-last es e.after films sight leads.2 shots held kind_after) (is_frame e.happening) refl films shots
    where
      by : Holds sight e.before.frame × IsOf e.before.frame
          → ((films : List Film) (sight : Sight) → Holds sight e.after.frame → AreShots (frames_of es) films
          → Holds (fold (copied width) sight (take (length (frames_of es)) films)) to.frame)
          → (b : Bool) → is_frame e.happening ≡ b → (films : List Film) → AreShots (cond b (e ∷ frames_of es) (frames_of es)) films
          → Holds (fold (copied width) sight (take (length (cond b (e ∷ frames_of es) (frames_of es))) films)) to.frame
      by began rest true is [] shots = absurd shots
      by began rest true is (film ∷ films) shots =
          let shown : IsShown e.before e.path e.after = subst (λ b. PaintsIf b e.happening e.before e.path e.after) is leads.1.paints in
          rest films (copied width sight film) (subst (λ n. Holds (copied n sight film) e.after.frame) began.1.wide (copied-holds e film sight shown shots.0 began.0)) shots.1
      by began rest false is films shots =
          let marked : IsMarked e.happening e.before e.path e.after = subst (λ b. PaintsIf b e.happening e.before e.path e.after) is leads.1.paints in
          rest films sight (subst (λ (i : Image). Holds sight i) (sym marked.frame) began.0) shots

-- ---- what a frame shows

-- A frame shows the desktop as it began, painted from nothing, after whatever came before it.
pub frame-scratch : (past : List Event) (frame : Event) (from to : Moment) (liars broke : ℕ → Bool) → AreEvents from (past ++ frame ∷ []) to → AreApart (past ++ frame ∷ [])
    → is_frame frame.happening ≡ true
    → AreLiars liars (past ++ frame ∷ []) broke → IsRightBut liars from → (x y : ℕ) → x < frame.before.frame.width → y < frame.before.frame.height
    → is_covered all_windows broke frame.before.desktop (pos x) (pos y) ≡ false → color_at frame.after.frame x y ≡ scratch frame.before.frame.background frame.before.desktop (pos x) (pos y)
frame-scratch [] frame from to liars broke leads apart tick holds right x y w h clear =
    let at : IsRightBut liars frame.before = subst (λ (m : Moment). IsRightBut liars m) (sym leads.0) right in
    let more : (c : ℕ) → broke c ≡ false → holds.0 c ≡ false = holds.2 in
    let those : HoldsLiars frame liars broke = λ c honest. holds.1 c (more c honest) in
    let shown : IsShown frame.before frame.path frame.after = subst (λ b. PaintsIf b frame.happening frame.before frame.path frame.after) tick leads.1.paints in
    frame-right frame liars broke leads.1.leads (apart.0, apart.1) those at
    (λ c honest. keeps-opaque frame.happening frame.before.desktop frame.after.desktop c tick (those c honest).0) shown x y (rw (← at.wide) w) (rw (← at.high) h)
    (covers-less (both liars broke) broke (pos x) (pos y) (all_windows frame.before.desktop) (still-liars frame liars broke tick those) clear)
frame-scratch (e ∷ es) frame from to liars broke leads apart tick holds right x y w h clear =
    let at : IsRightBut liars e.before = subst (λ (m : Moment). IsRightBut liars m) (sym leads.0) right in
    frame-scratch es frame e.after to holds.0 broke leads.2 apart.2 tick holds.2 (event-right e liars holds.0 leads.1 (apart.0, apart.1) holds.1 at) x y w h clear

pub sees-scratch : (from to : Moment) (events : List Event) (films : List Film) (liars : ℕ → Bool) (sight : Sight) → AreApart events → AreEvents from events to
    → AreShots (frames_of events) films
    → IsRightBut liars from → Holds sight from.frame → SeesScratch liars sight from.frame events films
sees-scratch from to events films liars sight apart leads shots right held before frame later broke x y same tick holds w h clear =
    sees-each from.frame.width from.frame.height from.frame.background to before frame later from films liars broke sight x y
    (subst (λ es. AreEvents from es to) same leads) (subst AreApart same apart) tick (subst (λ es. AreShots (frames_of es) films) same shots) holds right held
    (record { wide = refl; high = refl; over = refl }) w h clear

pub holds-after : (from to : Moment) (events : List Event) (films : List Film) (sight : Sight) → AreEvents from events to → AreShots (frames_of events) films
    → Holds sight from.frame → Holds (seen_after from.frame sight events films) to.frame
holds-after from to events films sight leads shots held =
    holds-last from.frame.width from.frame.height from.frame.background to events from films sight leads shots held (record { wide = refl; high = refl; over = refl })

pub seen_is_scratch : SeenIsScratch
seen_is_scratch output from to events films liars sight first leads shots right held =
    sees-scratch from to events films liars sight (events-apart from to events (subst AreOrderly (sym first) (empty-orderly output)) leads) leads shots right held
