-- What the words of a command line ask. Their grammar is clap's: its definitions say, for a command and words, what each option
-- is given and by which kinds of error the words are refused.
use Rattle.std.specs.Prelude.{◌≡◌, ◌≢◌, ◌≤◌, ◌==◌, ⊤, ℕ, Bool, true, false, not, List, [], ◌∷◌, Option, Some, None, IsSome, unwrap_or}
use Rattle.std.specs.Prelude.{codes, option_map}
use Rattle.std.specs.List.{before_first, list_any}
use Rattle.std.specs.Option.{option_and_then}
use Rattle.std.specs.Str.{bytes_eq}
use Rattle.clap.specs.Words.{App, IsAmong, Row, Rule, Text, fault_of, first_of, kind_of, new_app, new_rule, subcommand_of, with_rule}
use Rattle.clap.specs.Words.{with_subcommand}
use Rattle.clap.specs.Kinds.{Kinds}
use Rattle.clap.specs.declared.error.Error.{Error}
use Rattle.clap.specs.declared.error.kind.ErrorKind.TheVariants.{OutOfMemory}
use Rattle.clap.specs.declared.builder.value_parser.ValueParser.TheVariants.{Unsigned}
use Rattle.wl_recording.specs.Line.{number_of}
use Rattle.wl_program.specs.Rate.{rate_of}
use Rattle.wl_program.specs.Size.{size_of}
use Rattle.wl_program.specs.declared.command.Asked.{Asked}
use Rattle.wl_program.specs.declared.command.Asked.TheVariants as asked
use Rattle.wl_program.specs.declared.command.Serve.{Serve}
use Rattle.wl_program.specs.declared.command.Replay.{Replay}
use Rattle.wl_program.specs.declared.command.CommandError.{CommandError}
use Rattle.wl_program.specs.declared.command.CommandError.TheVariants as refused
use Rattle.wl_program.specs.declared.fault.Fault.TheVariants as fault

-- `--name VALUE`
abbrev pub option_named : Text → Rule
option_named name = record (new_rule name) { long = Some name; value_names = 1 }

abbrev pub size_option : Rule
size_option = record (option_named (codes "size")) { defaults = codes "640x480" ∷ [] }

abbrev pub ppm_option : Rule
ppm_option = option_named (codes "ppm")

abbrev pub dir_option : Rule
dir_option = record (option_named (codes "dir")) { defaults = codes "." ∷ [] }

abbrev pub required : Rule → Rule
required option = record option { required = true }

abbrev pub socket_option : Rule
socket_option = required (option_named (codes "socket"))

-- a number from 1 to 1,000,000, which may be left out where it is said how often turns begin
abbrev pub turns_option : Bool → Rule
turns_option is_paced = record (option_named (codes "turns")) { parser = Some (Unsigned 1 1000000); required = not is_paced }

abbrev pub rate_option : Rule
rate_option = option_named (codes "rate")

abbrev pub pointer_option : Rule
pointer_option = option_named (codes "pointer")

abbrev pub viewer_option : Rule
viewer_option = option_named (codes "viewer")

abbrev pub record_option : Rule
record_option = option_named (codes "record")

-- `[--size WxH] [--ppm FILE] [--dir DIR]`
abbrev pub with_output : App → App
with_output a = with_rule (with_rule (with_rule a size_option) ppm_option) dir_option

-- `replay [--size WxH] [--ppm FILE] [--dir DIR]`
abbrev pub replay_command : App
replay_command = with_output (new_app (codes "replay"))

-- `serve --socket PATH --turns N [--rate HZ] [--size WxH] [--ppm FILE] [--dir DIR] [--pointer FILE] [--viewer PATH] [--record FILE]`, of which
-- `--turns N` may be left out where the rate is given
abbrev pub serve_command : Bool → App
serve_command is_paced =
    with_rule (with_rule (with_rule (with_output (with_rule (with_rule (with_rule (new_app (codes "serve")) socket_option) (turns_option is_paced)) rate_option))
    pointer_option) viewer_option) record_option

-- `wlframe`, which has a version, and does nothing but by a subcommand
abbrev pub bare_command : App
bare_command =
    let a = new_app (codes "wlframe") in
    record a { top = record a.top { has_version = true; subcommand_required = true; arg_required_else_help = true } }

-- `wlframe COMMAND`
unfoldable pub program : Bool → App
program is_paced = with_subcommand (with_subcommand bare_command replay_command.top) (serve_command is_paced).top

abbrev pub is_equals : ℕ → Bool
is_equals b = b == 61

-- `--rate`, or `--rate=` and a value
abbrev pub is_rate_word : Text → Bool
is_rate_word word = bytes_eq (before_first is_equals word) (codes "--rate")

-- a word says how often turns begin
abbrev pub is_paced : List Text → Bool
is_paced words = list_any is_rate_word words

-- The kinds of error by which the words are refused. There is none where they are accepted.
unfoldable pub refusals : List Text → Kinds
refusals words = fault_of (program (is_paced words)) words

-- the subcommand that the words name, with what its options are given, be it by their defaults
unfoldable pub entered : List Text → Option (Text × List Row)
entered words = subcommand_of (program (is_paced words)) words

-- what the subcommand's option of this name is given
abbrev pub given : List Text → Text → Option Text
given words name = option_and_then (λ subcommand. first_of name subcommand.1) (entered words)

-- the size that is asked, where it is one
abbrev pub asked_size : (Text → Option Text) → Option (ℕ × ℕ)
asked_size value = option_and_then size_of (value (codes "size"))

-- the replay that the options ask by their values
pub record IsGiven (value : Text → Option Text) (replay : Replay) : Type 0 where
  pub size : asked_size value ≡ Some (replay.size.width, replay.size.height)
  pub dir : replay.dir.now ≡ unwrap_or (value (codes "dir")) (codes ".")
  pub ppm : option_map (λ path. path.now) replay.ppm ≡ value (codes "ppm")

-- How many turns are asked: a word that is a number from 1 to 1,000,000 is that many.
abbrev pub AreTurns : Option Text → Option ℕ → Type 0
AreTurns None turns = turns ≡ None
AreTurns (Some word) None = ⊥
AreTurns (Some word) (Some turns) =
    (1 ≤ turns) × (turns ≤ 1000000) × ((n : ℕ) → number_of word ≡ Some n → 1 ≤ n → n ≤ 1000000 → turns ≡ n)

-- How often turns begin, where it is said: as often as the word spells, which is a rate.
abbrev pub IsRate : Option Text → Option ℕ → Type 0
IsRate None hertz = hertz ≡ None
IsRate (Some word) hertz = (hertz ≡ rate_of word) × IsSome hertz

-- what is to be served by the values of the options
pub record IsServed (value : Text → Option Text) (serve : Serve) : Type 0 where
  pub socket : serve.socket.now ≡ unwrap_or (value (codes "socket")) []
  pub turns : AreTurns (value (codes "turns")) serve.turns
  pub rate : IsRate (value (codes "rate")) (option_map (λ rate. rate.hertz) serve.rate)
  pub size : asked_size value ≡ Some (serve.size.width, serve.size.height)
  pub dir : serve.dir.now ≡ unwrap_or (value (codes "dir")) (codes ".")
  pub ppm : option_map (λ path. path.now) serve.ppm ≡ value (codes "ppm")
  pub pointer : option_map (λ path. path.now) serve.pointer ≡ value (codes "pointer")
  pub viewer : option_map (λ path. path.now) serve.viewer ≡ value (codes "viewer")
  pub record_to : option_map (λ path. path.now) serve.record ≡ value (codes "record")

-- the subcommand `serve` asks to serve, and the other to replay
abbrev pub IsAskedBy : Text → (Text → Option Text) → Asked → Type 0
IsAskedBy name value (asked.Replay replay) = (bytes_eq name (codes "serve") ≡ false) × IsGiven value replay
IsAskedBy name value (asked.Serve serve) = (bytes_eq name (codes "serve") ≡ true) × IsServed value serve

-- the name of the subcommand
abbrev pub named : List Text → Text
named words = unwrap_or (option_map (λ subcommand. subcommand.0) (entered words)) []

-- The words are accepted, and ask this.
abbrev pub Asks : List Text → Asked → Type 0
Asks words asked = (refusals words ≡ []) × IsAskedBy (named words) (given words) asked

-- the word that is given is no rate
abbrev pub IsNoRate : Option Text → Type 0
IsNoRate None = ⊥
IsNoRate (Some word) = rate_of word ≡ None

-- What is wrong with the values of the options: the size is none, or the rate is none.
abbrev pub IsFaulty : (Text → Option Text) → CommandError → Type 0
IsFaulty value (refused.Usage error) = ⊥
IsFaulty value (refused.Fault fault.Size) = asked_size value ≡ None
IsFaulty value (refused.Fault fault.Rate) = IsNoRate (value (codes "rate"))
IsFaulty value (refused.Fault fault.Memory) = ⊥
IsFaulty value (refused.Fault fault.Read) = ⊥
IsFaulty value (refused.Fault fault.Write) = ⊥
IsFaulty value (refused.Fault (fault.Side line)) = ⊥
IsFaulty value (refused.Fault fault.Bind) = ⊥
IsFaulty value (refused.Fault (fault.BadLine line)) = ⊥

-- The words are accepted, but the size or the rate is none.
abbrev pub HasFault : List Text → CommandError → Type 0
HasFault words error = (refusals words ≡ []) × IsFaulty (given words) error

-- Why nothing is to be done: clap refuses the words, or shows its help or the version; the size or the rate is none; or memory is wanted.
abbrev pub IsRefused : List Text → CommandError → Type 0
IsRefused words (refused.Usage error) = IsAmong (kind_of error) (refusals words)
IsRefused words (refused.Fault fault.Memory) = ⊤
IsRefused words (refused.Fault other) = HasFault words (refused.Fault other)

-- Which error clap's is: out of memory is a fault, and all else is of usage.
abbrev pub IsToldAs : Error → CommandError → Type 0
IsToldAs error (refused.Usage told) = (told ≡ error) × (kind_of error ≢ OutOfMemory)
IsToldAs error (refused.Fault told) = (told ≡ fault.Memory) × (kind_of error ≡ OutOfMemory)
