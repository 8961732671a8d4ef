-- What a step leads to, with what is told besides.
use Rattle.std.proofs.Common.{◌≡◌, ℕ, ℤ, Bool, List, [], Option, refl, sym, subst, ◌∙◌, add-zero, append-nil}
use Rattle.std.specs.Io.KnownBytes.{Appends}
use Rattle.std.proofs.KnownBytes.{Appends-nil, Appends-trans}
use Rattle.spec_desktop.specs.Act.{Act, Button, Motion}
use Rattle.spec_desktop.specs.declared.answers.Done.{Done}
use Rattle.spec_desktop.specs.declared.answers.Done.TheVariants as gave
use Rattle.wl_session.specs.Course.{TakesCourse}
use Rattle.wl_session.specs.View.{SessionView}
use Rattle.wl_recording.specs.declared.line.Line.{Line}
use Rattle.wl_recording.specs.declared.line.Line.TheVariants as line
use Rattle.wl_recording.specs.Line.{Asked, meaning}
use Rattle.wl_replay.specs.Clients.{TellsFirst}
use Rattle.wl_replay.specs.Report.{TellsAll, TellsButton, TellsLine, TellsMotion, TellsNothing, TellsStep}
use Rattle.wl_recording.specs.Side.{Files}
use Rattle.wl_replay.specs.Told.{Counts, IsSilent, Leads, Stage, Stands, Steps, Told, and_then, words}
use Rattle.wl_replay.proofs.Stages.{stands-on, steps-on, after as after-step}

pub Leads-weaker : (R S : Stage → Told → Stage → Type 0) (before after : SessionView) (report reported : Option (List ℕ)) (P Q : Told → Type 0)
    → ((old new : Stage) (told : Told) → R old told new → S old told new) → ((told : Told) → P told → Q told)
    → Leads R before after report reported P → Leads S before after report reported Q
Leads-weaker R S before after report reported P Q f g leads = λ old stands.
    let m = leads old stands in (m.0, m.1, f old m.0 m.1 m.2, m.3, m.4, g m.1 m.5)

-- a step that shows no image
pub Counts-silent : (images : Option (List ℕ)) (clients : ℕ) (told : Told) → IsSilent clients told
    → Counts images images 0 clients told
Counts-silent images clients told h = (subst (Appends images images) (sym h.0) (Appends-nil images), h.1, h.2)

Counts-words : (images imaged : Option (List ℕ)) (frames clients : ℕ) (own : Told) (text : List ℕ) → Counts images imaged frames clients own
    → Counts images imaged frames clients (and_then own (words text))
Counts-words images imaged frames clients own text h =
    (subst (Appends images imaged) (sym (append-nil own.images)) h.0, add-zero own.frames ∙ h.1, add-zero own.clients ∙ h.2)

-- a step, and then each client is told of
pub Leads-all : {S : Type 0} (files : Files S) (from to : S) (asked : Asked) (before mid after : SessionView) (report wrote reported images imaged : Option (List ℕ)) (frames clients : ℕ)
    → Leads (TellsStep files asked from to) before mid report wrote (Counts images imaged frames clients)
    → ((old : Stage) → Stands mid old → (new : Stage) × (text : List ℕ) × TellsFirst 32 old text new × Stands after new × Appends wrote reported text)
    → Leads (TellsAll files asked from to) before after report reported (Counts images imaged frames clients)
Leads-all files from to asked before mid after report wrote reported images imaged frames clients leads tells = λ old stands.
    let m = leads old stands in
    let n = tells m.0 m.3 in (
      n.0,
      and_then m.1 (words n.1),
      (m.0, m.1, n.1, m.2, n.2, refl),
      n.3,
      Appends-trans _ _ _ m.1.text n.1 m.4 n.4,
      Counts-words images imaged frames clients m.1 n.1 m.5,
    )

-- each line but one that asks nothing
pub TellsLine-all : {S : Type 0} (files : Files S) (from to : S) (l : Line) (piece : List ℕ) → (l ≡ line.Nothing → ⊥) → (old new : Stage) (told : Told)
    → TellsAll files (meaning piece l) from to old told new → TellsLine files (meaning piece l) from to old told new
TellsLine-all files from to line.Connect piece some old new told tells = tells
TellsLine-all files from to (line.Bytes client) piece some old new told tells = tells
TellsLine-all files from to (line.Store place) piece some old new told tells = tells
TellsLine-all files from to (line.File place name) piece some old new told tells = tells
TellsLine-all files from to (line.Gone client) piece some old new told tells = tells
TellsLine-all files from to (line.Motion time x y) piece some old new told tells = tells
TellsLine-all files from to (line.Button time code pressed) piece some old new told tells = tells
TellsLine-all files from to (line.Tick time) piece some old new told tells = tells
TellsLine-all files from to line.Nothing piece some old new told tells = absurd (some refl)

-- the step of a line that is known
pub Leads-at : {S : Type 0} (files : Files S) (from to : S) (l m : Line) (piece : List ℕ) (R : Stage → Told → Stage → Type 0) (before after : SessionView)
    (report reported : Option (List ℕ)) (P Q : Told → Type 0) → l ≡ m
    → ((old new : Stage) (told : Told) → R old told new → TellsStep files (meaning piece m) from to old told new) → ((told : Told) → P told → Q told)
    → Leads R before after report reported P → Leads (TellsStep files (meaning piece l) from to) before after report reported Q
Leads-at files from to l m piece R before after report reported P Q is f g leads =
    Leads-weaker R (TellsStep files (meaning piece l) from to) before after report reported P Q
    (λ old new told tells. subst (λ (k : Line). TellsStep files (meaning piece k) from to old told new) (sym is) (f old new told tells)) g leads

-- nothing is asked
pub Leads-nothing : (session : SessionView) (report images : Option (List ℕ))
    → Leads TellsNothing session session report report (Counts images images 0 0)
Leads-nothing session report images = λ old stands.
    (old, words [], (refl, refl), stands, Appends-nil report, (Appends-nil images, refl, refl))

-- a step that isn't told of itself
Leads-silently : (act : Act) (done : Done) (before after : SessionView) (report images : Option (List ℕ)) → TakesCourse act done before after
    → Leads (λ old told new. Steps act done old new × (told ≡ words [])) before after report report (Counts images images 0 0)
Leads-silently act done before after report images takes = λ old stands.
    let course = takes old.now.desktop stands.desk in (
      after-step act done before after old course,
      words [],
      (steps-on act done before after old stands course, refl),
      stands-on act done before after old stands course,
      Appends-nil report,
      (Appends-nil images, refl, refl),
    )

-- the pointer moves
pub Leads-motion : (time : ℕ) (x y : ℤ) (before after : SessionView) (report images : Option (List ℕ)) → TakesCourse (Motion time x y) gave.Motion before after
    → Leads (TellsMotion time x y) before after report report (Counts images images 0 0)
Leads-motion time x y before after report images takes = Leads-silently (Motion time x y) gave.Motion before after report images takes

-- a button is pressed or released
pub Leads-button : (time code : ℕ) (pressed : Bool) (before after : SessionView) (report images : Option (List ℕ)) → TakesCourse (Button time code pressed) gave.Button before after
    → Leads (TellsButton time code pressed) before after report report (Counts images images 0 0)
Leads-button time code pressed before after report images takes = Leads-silently (Button time code pressed) gave.Button before after report images takes

-- a line that asks nothing
pub Leads-passed : {S : Type 0} (files : Files S) (from : S) (l : Line) (piece : List ℕ) (session : SessionView) (report images : Option (List ℕ)) → l ≡ line.Nothing
    → Leads (TellsLine files (meaning piece l) from from) session session report report (Counts images images 0 0)
Leads-passed files from l piece session report images is =
    Leads-weaker TellsNothing (TellsLine files (meaning piece l) from from) session session report report (Counts images images 0 0) (Counts images images 0 0)
    (λ old new told tells. subst (λ (k : Line). TellsLine files (meaning piece k) from from old told new) (sym is) (tells, refl)) (λ told counts. counts) (Leads-nothing session report images)
