-- Worked command lines, computed on the definitions.
use Rattle.std.proofs.Common.{◌≡◌, refl, codes, List, [], ◌∷◌, Some, None}
use Rattle.clap.specs.Words.{Text}
use Rattle.clap.specs.declared.error.kind.ErrorKind.TheVariants.{DisplayHelp, DisplayHelpOnMissingArgumentOrSubcommand, DisplayVersion, MissingRequiredArgument, UnknownArgument, ValueValidation}
use Rattle.clap.proofs.OnLiterals.{clap_on_literals}
use Rattle.wl_program.specs.Rate.{rate_of}
use Rattle.wl_program.specs.Command.{asked_size, entered, given, program, refusals}

abbrev replay : List Text → List Text
replay words = codes "wlframe" ∷ codes "replay" ∷ words

-- accepted, with what is given and what isn't
sized : List Text
sized = replay (codes "--size" ∷ codes "064x48" ∷ codes "--ppm=a" ∷ [])

sized-accepted : refusals sized ≡ []
unfolding clap_on_literals refusals program sized
sized-accepted = refl

sized-size : asked_size (given sized) ≡ Some (64, 48)
unfolding clap_on_literals entered program sized
sized-size = refl

sized-ppm : given sized (codes "ppm") ≡ Some (codes "a")
unfolding clap_on_literals entered program sized
sized-ppm = refl

sized-dir : given sized (codes "dir") ≡ Some (codes ".")
unfolding clap_on_literals entered program sized
sized-dir = refl

-- with no option: 640 by 480 and no images
plain-size : asked_size (given (replay [])) ≡ Some (640, 480)
unfolding clap_on_literals entered program
plain-size = refl

plain-ppm : given (replay []) (codes "ppm") ≡ None
unfolding clap_on_literals entered program
plain-ppm = refl

-- a second `x` is part of no number
twice-size : asked_size (given (replay (codes "--size" ∷ codes "64x64x64" ∷ []))) ≡ None
unfolding clap_on_literals entered program
twice-size = refl

-- help that was asked for, and words that are refused
help-refusals : refusals (codes "wlframe" ∷ codes "--help" ∷ []) ≡ DisplayHelp ∷ []
unfolding clap_on_literals refusals program
help-refusals = refl

version-refusals : refusals (codes "wlframe" ∷ codes "--version" ∷ []) ≡ DisplayVersion ∷ []
unfolding clap_on_literals refusals program
version-refusals = refl

bare-refusals : refusals (codes "wlframe" ∷ []) ≡ DisplayHelpOnMissingArgumentOrSubcommand ∷ []
unfolding clap_on_literals refusals program
bare-refusals = refl

extra-refusals : refusals (replay (codes "extra" ∷ [])) ≡ UnknownArgument ∷ []
unfolding clap_on_literals refusals program
extra-refusals = refl

-- `serve` needs its socket and its number of turns, which is 1 to 1,000,000
abbrev serve : List Text → List Text
serve words = codes "wlframe" ∷ codes "serve" ∷ words

served-accepted : refusals (serve (codes "--socket" ∷ codes "here" ∷ codes "--turns" ∷ codes "1000000" ∷ [])) ≡ []
unfolding clap_on_literals refusals program
served-accepted = refl

socketless-refusals : refusals (serve (codes "--turns" ∷ codes "1" ∷ [])) ≡ MissingRequiredArgument ∷ []
unfolding clap_on_literals refusals program
socketless-refusals = refl

restless-refusals : refusals (serve (codes "--socket" ∷ codes "here" ∷ codes "--turns" ∷ codes "1000001" ∷ [])) ≡ ValueValidation ∷ []
unfolding clap_on_literals refusals program
restless-refusals = refl

turnless-refusals : refusals (serve (codes "--socket" ∷ codes "here" ∷ [])) ≡ MissingRequiredArgument ∷ []
unfolding clap_on_literals refusals program
turnless-refusals = refl

-- with a rate it needs no number of turns
paced-accepted : refusals (serve (codes "--socket" ∷ codes "here" ∷ codes "--rate" ∷ codes "60" ∷ [])) ≡ []
unfolding clap_on_literals refusals program
paced-accepted = refl

joined-accepted : refusals (serve (codes "--socket" ∷ codes "here" ∷ codes "--rate=60" ∷ [])) ≡ []
unfolding clap_on_literals refusals program
joined-accepted = refl

joined-rate : given (serve (codes "--socket" ∷ codes "here" ∷ codes "--rate=60" ∷ [])) (codes "rate") ≡ Some (codes "60")
unfolding clap_on_literals entered program
joined-rate = refl

-- a rate is a number from 1 to 1,000 without a sign
rates : (rate_of (codes "1") ≡ Some 1) × (rate_of (codes "1000") ≡ Some 1000)
rates = (refl, refl)

no-rates : (rate_of (codes "0") ≡ None) × (rate_of (codes "1001") ≡ None) × (rate_of (codes "+4") ≡ None) × (rate_of (codes "x") ≡ None)
no-rates = (refl, refl, refl, refl)
