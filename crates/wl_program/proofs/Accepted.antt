-- What clap's clauses say of the program's command line.
use Rattle.std.proofs.Common.{◌≡◌, ◌∙◌, sym, ap, subst, refl, inl, inr, Bool, true, false, codes, List, [], Option, Some, None, Result, Ok, Err, option_map, unwrap_or}
use Rattle.std.specs.Option.{option_and_then}
use Rattle.std.specs.Result.{IfErr, IfOk, MatchResult}
use Rattle.clap.specs.Words.{App, FailsBy, HasKind, HasMatchesOf, IsAmong, Row, Text, fault_of, first_of, first_value, is_simple, is_simple_and_free, kind_of, rows_of, subcommand_rows_of}
use Rattle.clap.specs.declared.error.Error.{Error}
use Rattle.clap.specs.declared.parser.matches.ArgMatches.{ArgMatches}
use Rattle.clap.specs.declared.parser.matches.Found.{Found}
use Rattle.clap.proofs.WalkLemmas.{first_value-rows}
use Rattle.wl_program.specs.Command.{AreTurns, Asks, IsAskedBy, IsFaulty, IsGiven, IsNoRate, IsRate, IsRefused, IsServed, IsToldAs, asked_size, entered, given, is_paced, named, program, refusals}
use Rattle.wl_program.specs.Size.{size_of}
use Rattle.wl_program.specs.declared.command.Asked.{Asked}
use Rattle.wl_program.specs.declared.command.Asked.TheVariants as asked
use Rattle.wl_program.specs.declared.command.Replay.{Replay}
use Rattle.wl_program.specs.declared.command.Serve.{Serve}
use Rattle.wl_program.specs.declared.command.CommandError.{CommandError}
use Rattle.wl_program.specs.declared.command.CommandError.TheVariants as refused
use Rattle.wl_program.specs.declared.fault.Fault.{Fault}
use Rattle.wl_program.specs.declared.rate.Rate.{Rate}
use Rattle.wl_program.specs.declared.fault.Fault.TheVariants as fault

-- its options use nothing of which clap's clauses are silent
pub program-is_simple : (paced : Bool) → is_simple (program paced) ≡ true
unfolding program
program-is_simple true = refl
program-is_simple false = refl

pub program-is_simple_and_free : (paced : Bool) → is_simple_and_free (program paced) ≡ true
unfolding program
program-is_simple_and_free true = refl
program-is_simple_and_free false = refl

-- words that clap's parse of the program takes are refused by no kind
pub accepted-of : (app : App) (words : List Text) (matches : ArgMatches) → app ≡ program (is_paced words)
    → (is_simple_and_free app ≡ true → FailsBy (fault_of app words) (Ok matches)) → refusals words ≡ []
unfolding refusals
accepted-of app words matches is kinds =
    subst (λ (a : App). is_simple_and_free a ≡ true → fault_of a words ≡ []) is kinds (program-is_simple_and_free (is_paced words))

-- and those that it doesn't take by one of them, or where memory runs out
pub refused-of : (app : App) (words : List Text) (error : Error) → app ≡ program (is_paced words)
    → (is_simple_and_free app ≡ true → FailsBy {T = ArgMatches} (fault_of app words) (Err error)) → HasKind (refusals words) error
unfolding refusals
refused-of app words error is kinds =
    subst (λ (a : App). is_simple_and_free a ≡ true → HasKind (fault_of a words) error) is kinds (program-is_simple_and_free (is_paced words))

-- the subcommand that the parse entered
pub entered-of : (app : App) (words : List Text) (matches : ArgMatches) → app ≡ program (is_paced words) → HasMatchesOf app words matches
    → subcommand_rows_of matches ≡ entered words
unfolding entered
entered-of app words matches is has = (subst (λ (a : App). HasMatchesOf a words matches) is has (program-is_simple (is_paced words))).1

-- clap's error is told as one of those
pub told-refused : (words : List Text) (error : Error) (told : CommandError) → IsToldAs error told → HasKind (refusals words) error → IsRefused words told
told-refused words error (refused.Usage same) is (inl memory) = absurd (is.1 memory)
told-refused words error (refused.Usage same) is (inr among) = subst (λ (e : Error). IsAmong (kind_of e) (refusals words)) (sym is.0) among
told-refused words error (refused.Fault _) is has = subst (λ (f : Fault). IsRefused words (refused.Fault f)) (sym is.0) tt

-- with no subcommand there is no size
pub not-entered : (words : List Text) → None ≡ option_map (λ p. p.1) (entered words) → asked_size (given words) ≡ None
not-entered words e = go (entered words) e
  where
    go : (subcommand : Option (Text × List Row)) → None ≡ option_map (λ p. p.1) subcommand
        → option_and_then size_of (option_and_then (λ p. first_of (codes "size") p.1) subcommand) ≡ None
    go None e = refl
    go (Some p) e = cc

-- what an option is given is what its getter finds
pub given-found : (words : List Text) (name : Text) (found : Found) → option_map (λ p. p.1) (entered words) ≡ Some (rows_of found)
    → given words name ≡ first_value found name
given-found words name found e = go (entered words) e ∙ sym (first_value-rows found name)
  where
    go : (subcommand : Option (Text × List Row)) → option_map (λ p. p.1) subcommand ≡ Some (rows_of found)
        → option_and_then (λ p. first_of name p.1) subcommand ≡ first_of name (rows_of found)
    go None e = cc
    go (Some p) e = let same : p.1 ≡ rows_of found = cc in ap (first_of name) same

-- the name of the subcommand that was entered
pub named-found : (words : List Text) (name : Text) → option_map (λ p. p.0) (entered words) ≡ Some name → named words ≡ name
named-found words name e = ap (λ found. unwrap_or found []) e

-- the replay that is asked by the values that the getters find is asked by the words
given-by : (words : List Text) (found : Found) (replay : Replay) → ((name : Text) → given words name ≡ first_value found name) → IsGiven (first_value found) replay
    → IsGiven (given words) replay
given-by words found replay same asked = record {
  size = ap (option_and_then size_of) (same (codes "size")) ∙ asked.size;
  dir = asked.dir ∙ ap (λ value. unwrap_or value (codes ".")) (sym (same (codes "dir")));
  ppm = asked.ppm ∙ sym (same (codes "ppm"));
}

served-by : (words : List Text) (found : Found) (serve : Serve) → ((name : Text) → given words name ≡ first_value found name) → IsServed (first_value found) serve
    → IsServed (given words) serve
served-by words found serve same asked = record {
  socket = asked.socket ∙ ap (λ value. unwrap_or value []) (sym (same (codes "socket")));
  turns = subst (λ (value : Option Text). AreTurns value serve.turns) (sym (same (codes "turns"))) asked.turns;
  rate = subst (λ (value : Option Text). IsRate value (option_map (λ (r : Rate). r.hertz) serve.rate)) (sym (same (codes "rate"))) asked.rate;
  size = ap (option_and_then size_of) (same (codes "size")) ∙ asked.size;
  dir = asked.dir ∙ ap (λ value. unwrap_or value (codes ".")) (sym (same (codes "dir")));
  ppm = asked.ppm ∙ sym (same (codes "ppm"));
  pointer = asked.pointer ∙ sym (same (codes "pointer"));
  viewer = asked.viewer ∙ sym (same (codes "viewer"));
  record_to = asked.record_to ∙ sym (same (codes "record"));
}

-- what is wrong with the values that the getters find is wrong with the words
faulty-by : (words : List Text) (found : Found) (e : CommandError) → ((name : Text) → given words name ≡ first_value found name) → IsFaulty (first_value found) e
    → IsFaulty (given words) e
faulty-by words found (refused.Usage error) same faulty = absurd faulty
faulty-by words found (refused.Fault fault.Size) same faulty = ap (option_and_then size_of) (same (codes "size")) ∙ faulty
faulty-by words found (refused.Fault fault.Rate) same faulty = subst IsNoRate (sym (same (codes "rate"))) faulty
faulty-by words found (refused.Fault fault.Memory) same faulty = absurd faulty
faulty-by words found (refused.Fault fault.Read) same faulty = absurd faulty
faulty-by words found (refused.Fault fault.Write) same faulty = absurd faulty
faulty-by words found (refused.Fault (fault.Side line)) same faulty = absurd faulty
faulty-by words found (refused.Fault fault.Bind) same faulty = absurd faulty
faulty-by words found (refused.Fault (fault.BadLine line)) same faulty = absurd faulty

faulty-refused : (words : List Text) (e : CommandError) → refusals words ≡ [] → IsFaulty (given words) e → IsRefused words e
faulty-refused words (refused.Usage error) accepted faulty = absurd faulty
faulty-refused words (refused.Fault fault.Size) accepted faulty = (accepted, faulty)
faulty-refused words (refused.Fault fault.Rate) accepted faulty = (accepted, faulty)
faulty-refused words (refused.Fault fault.Memory) accepted faulty = tt
faulty-refused words (refused.Fault fault.Read) accepted faulty = absurd faulty
faulty-refused words (refused.Fault fault.Write) accepted faulty = absurd faulty
faulty-refused words (refused.Fault (fault.Side line)) accepted faulty = absurd faulty
faulty-refused words (refused.Fault fault.Bind) accepted faulty = absurd faulty
faulty-refused words (refused.Fault (fault.BadLine line)) accepted faulty = absurd faulty

-- what is asked by the values that the getters find is asked by the words
pub asked-by : (words : List Text) (name : Text) (found : Found) (answer : Result Asked CommandError) → refusals words ≡ [] → named words ≡ name
    → option_map (λ p. p.1) (entered words) ≡ Some (rows_of found) → IfOk answer (IsAskedBy name (first_value found))
    → IfErr answer (IsFaulty (first_value found)) → MatchResult answer (Asks words) (IsRefused words)
asked-by words name found (Ok (asked.Replay replay)) accepted is rows asked faulty =
    (accepted, (rw is asked.0, given-by words found replay (λ name. given-found words name found rows) asked.1))
asked-by words name found (Ok (asked.Serve serve)) accepted is rows asked faulty =
    (accepted, (rw is asked.0, served-by words found serve (λ name. given-found words name found rows) asked.1))
asked-by words name found (Err e) accepted is rows asked faulty =
    faulty-refused words e accepted (faulty-by words found e (λ name. given-found words name found rows) faulty)
