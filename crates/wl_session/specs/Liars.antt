-- Which clients broke a promise since they connected (the liars), and what is right of a session but for them.
use Rattle.std.specs.Prelude.{ℕ, ◌≡◌, ◌==◌, ◌&&◌, ◌<◌, pos, Bool, true, false, List, [], ◌∷◌}
use Rattle.wl_paint.specs.Damage.{has}
use Rattle.wl_paint.specs.Frame.{color_at}
use Rattle.spec_desktop.specs.Act.{Act, Connect, Feed, Store, Leave, Tick, Send, Close, Motion, Button}
use Rattle.spec_desktop.specs.Happenings.{Happening, Message, Receive, Single, Starve}
use Rattle.spec_desktop.specs.Scratch.{scratch}
use Rattle.spec_desktop.specs.Stacked.{all_windows}
use Rattle.spec_desktop.specs.declared.answers.Done.{Done}
use Rattle.spec_desktop.specs.declared.answers.Done.TheVariants as gave
use Rattle.wl_session.specs.Events.{Event, Moment}
use Rattle.wl_session.specs.Promises.{KeepsIn}
use Rattle.wl_session.specs.Unmarked.{is_covered}

abbrev pub was_closed : Done → Bool
was_closed (gave.Close closed) = closed
was_closed done = false

abbrev pub closes : Act → Done → ℕ → Bool
closes Connect done c = false
closes (Feed client piece) done c = false
closes (Store client store at bytes) done c = false
closes (Leave client) done c = false
closes (Tick time) done c = false
closes (Send client count) done c = false
closes (Close client) done c = was_closed done && (client == c)
closes (Motion time x y) done c = false
closes (Button time button pressed) done c = false

-- the number is given back of a client that ended; who gets it next starts honest
abbrev pub gives_back : Happening → ℕ → Bool
gives_back (Receive client piece) c = false
gives_back (Message client) c = false
gives_back (Starve client) c = false
gives_back (Single act done) c = closes act done c

-- A set of clients after an event: it holds each that breaks a promise in the event, and each that was in the set before it, unless its
-- number is given back.
abbrev pub HoldsLiars : Event → (ℕ → Bool) → (ℕ → Bool) → Type 0
HoldsLiars e before after =
    (c : ℕ) → after c ≡ false
    → KeepsIn all_windows e.happening e.before.desktop e.after.desktop c × (before c ≡ true → gives_back e.happening c ≡ true)

-- The same after many events, of the set before the first of them and the set after the last.
abbrev pub AreLiars : (ℕ → Bool) → List Event → (ℕ → Bool) → Type 0
AreLiars liars [] last = (c : ℕ) → last c ≡ false → liars c ≡ false
AreLiars liars (e ∷ es) last = (next : ℕ → Bool) × HoldsLiars e liars next × AreLiars next es last

-- Each point of the output is to be painted again, or covered by a window of one of these clients, or in the last frame as the desktop
-- painted from nothing.
pub record IsRightBut (liars : ℕ → Bool) (m : Moment) : Type 0 where
  pub wide : m.frame.width ≡ m.desktop.output.width
  pub high : m.frame.height ≡ m.desktop.output.height
  pub damage_wide : m.damage.width ≡ m.desktop.output.width
  pub damage_high : m.damage.height ≡ m.desktop.output.height
  pub points :
      (x y : ℕ) → x < m.desktop.output.width → y < m.desktop.output.height → has m.damage x y ≡ false
      → is_covered all_windows liars m.desktop (pos x) (pos y) ≡ false
      → color_at m.frame x y ≡ scratch m.frame.background m.desktop (pos x) (pos y)

-- no client
abbrev pub nobody : ℕ → Bool
nobody c = false
