-- A recording that was played up to a line.
use Rattle.std.proofs.Common.{◌≡◌, ◌<◌, ℕ, ◌+◌, List, [], ◌∷◌, ◌++◌, Option, Result, length, refl, ap, sym, ◌∙◌, inl, inr, arith}
use Rattle.std.specs.Prelude.{IfErr, IfOk, Ok, Err}
use Rattle.std.specs.Io.KnownBytes.{IsAtEnd}
use Rattle.std.proofs.KnownBytes.{Appends-nil, Appends-trans}
use Rattle.std.proofs.lemmas.List.{length_push}
use Rattle.spec_desktop.specs.Desktop.{Desktop}
use Rattle.wl_session.specs.View.{SessionView}
use Rattle.wl_session.specs.Config.{Config}
use Rattle.wl_recording.specs.declared.error.Summary.{Summary}
use Rattle.wl_recording.specs.declared.error.ReplayError.{ReplayError}
use Rattle.wl_recording.specs.declared.error.ReplayError.TheVariants as error
use Rattle.wl_session.specs.Agreeing.{Agrees}
use Rattle.wl_replay.specs.Report.{FailsAt, IsLackingLine, IsPlayed, Reported, StopsAs, TakesOne, more, none}
use Rattle.wl_recording.specs.Lines.{TakesLine}
use Rattle.wl_recording.specs.Side.{Files}
use Rattle.wl_replay.specs.Told.{Counts, IsFirst, Stage, Stands, and_then, words}

-- so many lines were played, with so many frames and clients, and the session stands for the last stage
pub record PlayedTo {S : Type 0} (files : Files S) (first : Stage) (from to : S) (session : SessionView) (read left report reported images imaged : Option (List ℕ)) (lines frames clients : ℕ) : Type 0
  where
    pub run : Reported files first from to read left report reported images imaged
    pub stands : Stands session run.last
    pub lines_told : length run.lines ≡ lines
    pub frames_told : run.told.frames ≡ frames
    pub clients_told : run.told.clients ≡ clients

pub PlayedTo-none : {S : Type 0} (files : Files S) (first : Stage) (from : S) (session : SessionView) (read report images : Option (List ℕ)) → Stands session first
    → PlayedTo files first from from session read read report report images images 0 0 0
PlayedTo-none files first from session read report images stands =
    record {
      run = record {
        few = omega arith;
        lines = [];
        told = words [];
        last = first;
        reads = none;
        tells = none;
        calm = refl;
        written = Appends-nil report;
        shown = Appends-nil images;
      };
      stands = stands;
      lines_told = refl;
      frames_told = refl;
      clients_told = refl;
    }

-- one more line was played
pub PlayedTo-more : {S : Type 0} (files : Files S) (first : Stage) (from between to : S) (before after : SessionView) (read mid left report wrote reported images showed imaged : Option (List ℕ))
    (lines frames clients more_frames more_clients : ℕ) → lines < 1000000 → PlayedTo files first from between before read mid report wrote images showed lines frames clients
    → TakesOne files between to mid left before after wrote reported (Counts showed imaged more_frames more_clients)
    → PlayedTo files first from to after read left report reported images imaged (lines + 1) (frames + more_frames) (clients + more_clients)
PlayedTo-more files first from between to before after read mid left report wrote reported images showed imaged lines frames clients more_frames more_clients low p one =
    let r = p.run in
    let next = one.5 r.last p.stands in
    record {
      run = record {
        few = omega (arith, length_push r.lines one.0, p.lines_told);
        lines = r.lines ++ one.0 ∷ [];
        told = and_then r.told next.1;
        last = next.0;
        reads = more r.lines mid left one.0 r.reads one.2 one.3;
        tells = more r.lines r.told next.1 r.last next.0 between to one.0 one.1 r.tells one.4 next.2;
        calm = one.6 ∙ r.calm;
        written = Appends-trans _ _ _ r.told.text next.1.text r.written next.4;
        shown = Appends-trans _ _ _ r.told.images next.1.images r.shown next.5.0;
      };
      stands = next.3;
      lines_told = length_push r.lines one.0 ∙ ap (λ (n : ℕ). n + 1) p.lines_told;
      frames_told = omega (arith, p.frames_told, next.5.1);
      clients_told = omega (arith, p.clients_told, next.5.2);
    }

-- nothing is left, and nothing more was told or read
pub IsPlayed-end : {S : Type 0} (files : Files S) (first : Stage) (from between to : S) (session : SessionView) (read left report wrote reported images showed imaged : Option (List ℕ))
    (lines frames clients : ℕ)
    → PlayedTo files first from between session read left report wrote images showed lines frames clients → IsAtEnd left → reported ≡ wrote → imaged ≡ showed → to ≡ between
    → IsPlayed files first from to (record { lines = lines; frames = frames; clients = clients }) read report reported images imaged
IsPlayed-end files first from between to session read left report wrote reported images showed imaged lines frames clients p ends same_text same_images same_side =
    rw (same_text, same_images, same_side)
    (left, p.run, ends, rw (p.lines_told, p.frames_told, p.clients_told) refl)

-- the next line wasn't played
pub StopsAs-line : {S : Type 0} (files : Files S) (e : ReplayError) (first : Stage) (from between to : S) (session : SessionView) (read left report wrote reported images showed imaged : Option
    (List ℕ))
    (lines frames clients : ℕ) (IsQuiet IsLacking : Type 0) → PlayedTo files first from between session read left report wrote images showed lines frames clients
    → (IsQuiet → (reported ≡ wrote) × (imaged ≡ showed) × (to ≡ between))
    → (IsLacking → (reported ≡ wrote) × (imaged ≡ showed) × ((d : Desktop) → Agrees session.desk d → IsLackingLine files left d between to))
    → FailsAt e (lines + 1) left IsQuiet IsLacking → StopsAs files e first from to read report reported images imaged
StopsAs-line files error.Read first from between to session read left report wrote reported images showed imaged lines frames clients IsQuiet IsLacking p same lacks fails =
    let e = same fails in rw (e.0, e.1, e.2) (left, p.run)
StopsAs-line files error.Write first from between to session read left report wrote reported images showed imaged lines frames clients IsQuiet IsLacking p same lacks fails = tt
StopsAs-line files (error.BadLine n) first from between to session read left report wrote reported images showed imaged lines frames clients IsQuiet IsLacking p same lacks fails =
    let e = same fails.2 in rw (e.0, e.1, e.2) (left, p.run, fails.0 ∙ ap (λ (k : ℕ). k + 1) (sym p.lines_told), inr fails.1)
StopsAs-line files (error.Side n) first from between to session read left report wrote reported images showed imaged lines frames clients IsQuiet IsLacking p same lacks fails =
    let e = lacks fails.1 in rw (e.0, e.1) (left, between, p.run, fails.0 ∙ ap (λ (k : ℕ). k + 1) (sym p.lines_told), e.2 p.run.last.now.desktop p.stands.desk)
StopsAs-line files error.Memory first from between to session read left report wrote reported images showed imaged lines frames clients IsQuiet IsLacking p same lacks fails = tt

-- a line past the greatest number of lines
pub StopsAs-past : {S : Type 0} (files : Files S) (first : Stage) (from to : S) (session : SessionView) (read left rest report reported images imaged : Option (List ℕ)) (line : List ℕ)
    (frames clients : ℕ) → PlayedTo files first from to session read left report reported images imaged 1000000 frames clients → TakesLine left rest line
    → StopsAs files (error.BadLine 1000001) first from to read report reported images imaged
StopsAs-past files first from to session read left rest report reported images imaged line frames clients p taken =
    (left, p.run, ap (λ (k : ℕ). k + 1) (sym p.lines_told), inl (p.lines_told, line, rest, taken))

-- what an answer says of every stage that the session stands for, it says of the first
pub IfErr-at : (r : Result Summary ReplayError) (P : ReplayError → Stage → Type 0) (config : Config) (session : SessionView) (first : Stage) → IsFirst config first → Stands session first
    → IfErr r (λ e. (x : Stage) → Stands session x → P e x) → IfErr r (λ e. (x : Stage) × IsFirst config x × P e x)
IfErr-at (Ok t) P config session first is stands h = h
IfErr-at (Err e) P config session first is stands h = (first, is, h first stands)

pub IfOk-at : (r : Result Summary ReplayError) (P : Summary → Stage → Type 0) (config : Config) (session : SessionView) (first : Stage) → IsFirst config first → Stands session first
    → IfOk r (λ t. (x : Stage) → Stands session x → P t x) → IfOk r (λ t. (x : Stage) × IsFirst config x × P t x)
IfOk-at (Ok t) P config session first is stands h = (first, is, h first stands)
IfOk-at (Err e) P config session first is stands h = h
