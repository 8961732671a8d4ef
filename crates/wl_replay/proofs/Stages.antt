-- What a session's calls make of a stage.
use Rattle.std.proofs.Common.{◌≡◌, ◌++◌, ◌*◌, ℕ, false, List, [], ap, refl, subst, ◌∙◌}
use Rattle.spec_desktop.specs.Act.{Act, Tick}
use Rattle.spec_desktop.specs.Desktop.{empty}
use Rattle.spec_desktop.specs.declared.answers.Done.{Done}
use Rattle.spec_desktop.specs.declared.answers.Done.TheVariants as gave
use Rattle.wl_session.specs.Agreeing.{Agrees}
use Rattle.wl_session.specs.Course.{Course, moment}
use Rattle.wl_session.specs.Damage.{Damaged, has}
use Rattle.wl_session.specs.Events.{AreEvents, Moment}
use Rattle.wl_session.specs.Frame.{Image, filled}
use Rattle.wl_session.specs.Liars.{IsRightBut, nobody}
use Rattle.wl_session.specs.View.{SessionView}
use Rattle.wl_session.specs.Config.{Config}
use Rattle.wl_session.proofs.Courses.{apart-then, events-then}
use Rattle.wl_session.proofs.Runs.{tick-scratch}
use Rattle.wl_replay.specs.Told.{IsFirst, IsSeenAt, Stage, Stands, Steps}

-- a stage that a session stands for is the moment that it is at
same-moment : (session : SessionView) (stage : Stage) → Stands session stage → moment stage.now.desktop session ≡ stage.now
same-moment session stage stands =
    ap (λ (m : Damaged). record { desktop = stage.now.desktop; damage = m; frame = session.frame }) stands.damage
    ∙ ap (λ (i : Image). record { desktop = stage.now.desktop; damage = stage.now.damage; frame = i }) stands.frame

-- the stage after a step
abbrev pub after : (act : Act) → (done : Done) → (old new : SessionView) → (stage : Stage) → Course act done old new stage.now.desktop → Stage
after act done old new stage course = record { first = stage.first; events = stage.events ++ course.events; now = moment course.desktop new }

module _ (act : Act) (done : Done) (old new : SessionView) (stage : Stage) (stands : Stands old stage) (course : Course act done old new stage.now.desktop) where
  leads-on : AreEvents stage.now course.events (moment course.desktop new)
  leads-on = subst (λ (m : Moment). AreEvents m course.events (moment course.desktop new)) (same-moment old stage stands) course.leads

  pub steps-on : Steps act done stage (after act done old new stage course)
  steps-on = record { happens = course.happens; events = course.events; parts = course.parts; leads = leads-on; later = refl; first = refl }

  pub stands-on : Stands new (after act done old new stage course)
  stands-on = record {
    desk = course.agrees;
    damage = refl;
    frame = refl;
    right = stands.right;
    led = events-then stage.first stage.now (moment course.desktop new) stage.events course.events stands.led leads-on;
    apart = apart-then stage.events course.events stands.apart course.apart;
  }

-- a frame is seen as it is to be
pub seen-on : (time : ℕ) (old new : SessionView) (stage : Stage) → Stands old stage → (course : Course (Tick time) gave.Tick old new stage.now.desktop)
    → IsSeenAt stage (after (Tick time) gave.Tick old new stage course)
seen-on time old new stage stands course broke x y liars wide high clear =
    let on = stands-on (Tick time) gave.Tick old new stage stands course in
    tick-scratch time stage.first stage.now (moment course.desktop new) stage.events course.events nobody broke stands.right on.led on.apart course.parts
    (leads-on (Tick time) gave.Tick old new stage stands course) liars x y wide high clear

-- ---- at first

image_is : (i : Image) (config : Config) (pixels : List ℕ) → i.width ≡ config.width → i.height ≡ config.height → i.background ≡ config.background → i.pixels ≡ pixels
    → i ≡ record { width = config.width; height = config.height; background = config.background; pixels = pixels }
image_is i config pixels a b c d = rw (← a, ← b, ← c, ← d) refl

abbrev pub begun : Config → SessionView → Stage
begun config s =
    let first : Moment = moment (empty (record { width = config.width; height = config.height })) s in
    record { first = first; events = []; now = first }

module _ (s : SessionView) (config : Config) (agrees : Agrees s.desk (empty (record { width = config.width; height = config.height })))
    (right : IsRightBut nobody (moment (empty (record { width = config.width; height = config.height })) s)) where
  pub stands-first : Stands s (begun config s)
  stands-first = record { desk = agrees; damage = refl; frame = refl; right = right; led = refl; apart = tt }

  pub is-first : s.frame.width ≡ config.width → s.frame.height ≡ config.height → s.frame.background ≡ config.background → s.frame.pixels ≡ filled (config.width * config.height) config.background
      → ((x y : ℕ) → has s.damage x y ≡ false) → IsFirst config (begun config s)
  is-first a b c d none = record { events = refl; now = refl; desktop = refl; frame = image_is s.frame config _ a b c d; damage = none }

-- there is such a stage, whatever session there is
pub some-first : (config : Config) → (stage : Stage) × IsFirst config stage
some-first config =
    let first : Moment = record {
      desktop = empty (record { width = config.width; height = config.height });
      damage = record { width = config.width; height = config.height; rows = [] };
      frame = record { width = config.width; height = config.height; background = config.background; pixels = filled (config.width * config.height) config.background };
    } in (
      record { first = first; events = []; now = first },
      record { events = refl; now = refl; desktop = refl; frame = refl; damage = λ x y. refl },
    )
