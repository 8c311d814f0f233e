-- The job that the words of a command ask for: a function of what a parse found.
use Rattle.std.specs.Prelude.{ℕ, Bool, false, not, ◌&&◌, ◌==◌, nat_lt, if◌then◌else◌, [], ◌∷◌, count_by}
use Rattle.std.specs.Prelude.{Option, Some, None, is_some, unwrap_or, option_map, option_and_then, Result, Ok, Err, codes}
use Rattle.std.specs.Option.{option_map_or, option_or}
use Rattle.std.specs.Str.{bytes_eq}
use Rattle.std.specs.String.{string_bytes}
use Rattle.clap.specs.Matches.{first_value, one_text}
use Rattle.clap.specs.Walk.{Text}
use Rattle.clap.specs.declared.parser.matches.Found.{Found}
use Rattle.aec_params.specs.Params.{settings_fault, usual_settings}
use Rattle.aec_params.specs.declared.settings.Settings.{Settings}
use Rattle.aec_cli.specs.declared.usage.Usage.{Usage}
use Rattle.aec_cli.specs.declared.usage.Usage.TheVariants.{Jobs, Count, Range, Setting}
use Rattle.aec_cli.specs.declared.job.Action.{Action}
use Rattle.aec_cli.specs.declared.job.Action.TheVariants as action
use Rattle.aec_cli.specs.declared.job.Job.{Job}
use Rattle.aec_engine.specs.Numerals.{option_number, range_in}

-- what is done: samples are coded; coded data are decoded, cut to a range, or edited by the script
-- in a file
pub data Work : Type 0 where
  coding : Work
  decoding : Option ℕ → Work
  cutting : ℕ → ℕ → Option ℕ → Work
  editing : Text → Option ℕ → Work

-- an `Action` of the code as work
abbrev pub work_of : Action → Work
work_of action.Encode = coding
work_of (action.Decode count) = decoding count
work_of (action.Range first len count) = cutting first len count
work_of (action.Edit script count) = editing (string_bytes script) count

-- one job: the settings, what is done, and the names of the two files
pub record Task : Type 0 where
  pub settings : Settings
  pub work : Work
  pub source : Text
  pub dest : Text

-- a `Job` of the code as a task
abbrev pub task_of : Job → Task
task_of j =
    record { settings = j.params; work = work_of j.action; source = string_bytes j.source; dest = string_bytes j.dest }

-- whether a flag is given: its value is the word `true`
unfoldable pub is_given : Text → Found → Bool
is_given id f = option_map_or (λ text. bytes_eq text (codes "true")) (first_value f id) false

-- the number of an option, or the default if it has none (COMMAND: Options)
unfoldable pub word_of : ℕ → Text → Found → ℕ
word_of default id f = unwrap_or (option_and_then (option_number 32) (one_text f id)) default

-- the sample count, if one is given
unfoldable pub count_of : Found → Option ℕ
count_of f = option_and_then (option_number 64) (one_text f (codes "count"))

-- the name of a file; with none, the empty name
unfoldable pub file_of : Text → Found → Text
file_of id f = unwrap_or (first_value f id) []

-- the settings: each number with its default if no other is given, and each flag (COMMAND: Options)
unfoldable pub settings_of : Found → Settings
settings_of f = record {
  bits = word_of usual_settings.bits (codes "bits") f;
  block_size = word_of usual_settings.block_size (codes "block-size") f;
  interval = word_of usual_settings.interval (codes "interval") f;
  signed = is_given (codes "signed") f;
  msb_first = is_given (codes "msb-first") f;
  three_byte = is_given (codes "three-byte") f;
  preprocess = not (is_given (codes "no-preprocessing") f);
  pad = is_given (codes "pad") f;
  restricted = is_given (codes "restricted") f;
  even_blocks = is_given (codes "even-blocks") f;
}

-- ---- what is done

-- how many of `-d`, `--range` and `--edit` are given
unfoldable pub actions_given : Found → ℕ
actions_given f =
    count_by (λ given. given)
    (is_given (codes "decode") f ∷ is_some (first_value f (codes "range")) ∷ is_some (first_value f (codes "edit"))
    ∷ [])

-- the range, if the text is one
unfoldable pub range_of : Found → Option (ℕ × ℕ)
range_of f = option_and_then range_in (first_value f (codes "range"))

-- a refusal, if a test holds
abbrev pub refused_where : Bool → Usage → Option Usage
refused_where holds usage = if holds then Some usage else None

-- The first reason why no action is asked for: more than one is given; a sample count without an
-- action that reads coded data; a range whose text is none. (COMMAND: Order of a run; tests in
-- their order, where the code matches on both at once)
unfoldable pub action_refusal : Found → Option Usage
action_refusal f =
    option_or (refused_where (nat_lt 1 (actions_given f)) Jobs)
    (option_or (refused_where (is_some (count_of f) && actions_given f == 0) Count)
    (refused_where (is_some (first_value f (codes "range")) && not (is_some (range_of f))) Range))

-- what is asked for if nothing is refused: a script's edits, a range, all samples, or coding
unfoldable pub work_asked : Found → Work
work_asked f = option_map_or (λ script. editing script (count_of f)) (first_value f (codes "edit"))
    (option_map_or (λ range. cutting range.0 range.1 (count_of f)) (range_of f)
    (if is_given (codes "decode") f then decoding (count_of f) else coding))

-- ---- the job

-- the job that the words ask for if nothing is refused
abbrev pub asked_task : Found → Task
asked_task f = record {
  settings = settings_of f;
  work = work_asked f;
  source = file_of (codes "SOURCE") f;
  dest = file_of (codes "DEST") f;
}

-- why there is no job: the refusal of its action, else the first rule of the format that its
-- settings break (COMMAND: Order of a run)
abbrev pub job_refusal : Found → Option Usage
job_refusal f = option_or (action_refusal f) (option_map (λ fault. Setting fault) (settings_fault (settings_of f)))

-- the job, or its refusal
abbrev pub job_of : Found → Result Task Usage
job_of f = option_map_or Err (job_refusal f) (Ok (asked_task f))
