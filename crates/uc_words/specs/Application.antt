-- The command line as it is declared to clap, and the words that it is given.
use Rattle.std.specs.Prelude.{ℕ, Bool, true, false, List, [], ◌∷◌, ◌++◌, map, fold, Option, Some, None, codes, if◌then◌else◌}
use Rattle.clap.specs.Lexer.{usize_max}
use Rattle.clap.specs.Walk.{Rule}
use Rattle.clap.specs.Simple.{App, Shape, new_rule, new_app, with_rule, with_subcommand}
use Rattle.clap.specs.declared.builder.action.ArgAction.{ArgAction}
use Rattle.clap.specs.declared.builder.action.ArgAction.TheVariants.{Set, SetTrue}
use Rattle.uc_words.specs.declared.command.Verb.{Verb}
use Rattle.uc_words.specs.declared.command.Verb.TheVariants as verb
use Rattle.uc_words.specs.declared.table.Key.{Key}
use Rattle.uc_words.specs.declared.table.Key.TheVariants as key
use Rattle.uc_words.specs.Table.{allows, is_flag}
use Rattle.uc_words.specs.Lines.{Line}

-- the names of the commands and of the options
abbrev pub verb_name : Verb → List ℕ
verb_name verb.Prove = codes "prove"
verb_name verb.Check = codes "check"
verb_name verb.Decide = codes "decide"
verb_name verb.Show = codes "show"
verb_name verb.Rewrite = codes "rewrite"
verb_name verb.Order = codes "order"
verb_name verb.Pairs = codes "pairs"
verb_name verb.Gen = codes "gen"
verb_name verb.Table = codes "table"
verb_name verb.Model = codes "model"
verb_name verb.Certify = codes "certify"

abbrev pub key_name : Key → List ℕ
key_name key.Root = codes "root"
key_name key.Order = codes "order"
key_name key.Precedence = codes "precedence"
key_name key.Weights = codes "weights"
key_name key.W0 = codes "w0"
key_name key.Budget = codes "budget"
key_name key.Pairs = codes "pairs"
key_name key.Workers = codes "workers"
key_name key.Steps = codes "steps"
key_name key.System = codes "system"
key_name key.Limit = codes "limit"
key_name key.Size = codes "size"
key_name key.Trace = codes "trace"
key_name key.Certificate = codes "certificate"

abbrev pub all_verbs : List Verb
all_verbs = verb.Prove ∷ verb.Check ∷ verb.Decide ∷ verb.Show ∷ verb.Rewrite ∷ verb.Order ∷ verb.Pairs ∷ verb.Gen ∷ verb.Table ∷ verb.Model ∷ verb.Certify ∷ []

abbrev pub all_keys : List Key
all_keys = key.Root ∷ key.Order ∷ key.Precedence ∷ key.Weights ∷ key.W0 ∷ key.Budget ∷ key.Pairs ∷ key.Workers ∷ key.Steps ∷ key.System ∷ key.Limit ∷ key.Size ∷ key.Trace ∷ key.Certificate ∷ []

-- an option takes one value, a flag none, and neither may stand twice
abbrev pub action_for : Bool → ArgAction
action_for flag = if flag then SetTrue else Set

abbrev pub option_rule : Key → Rule
option_rule k = record (new_rule (key_name k)) { long = Some (key_name k); action = Some (action_for (is_flag k)) }

-- the positionals: one at least
abbrev pub words_rule : Rule
words_rule = record (new_rule (codes "words")) {
  action = Some Set;
  range = Some (record { start_inclusive = 1; end_inclusive = usize_max });
  required = true;
}

-- a command with its options and the positionals
abbrev pub with_option : Verb → App → Key → App
with_option v a k = if allows v k then with_rule a (option_rule k) else a

abbrev pub command_app : Verb → App
command_app v = with_rule (fold (with_option v) (new_app (verb_name v)) all_keys) words_rule

-- the program: it has these commands and no help
abbrev pub bare_shape : Shape → Shape
bare_shape s = record s { no_binary_name = true; disable_help_flag = true; disable_help_subcommand = true }

abbrev pub bare_app : App
bare_app = record { top = bare_shape (new_app (codes "uc")).top; subs = [] }

abbrev pub with_command : App → Verb → App
with_command a v = with_subcommand a (command_app v).top

abbrev pub application : App
application = fold with_command bare_app all_verbs

-- an option in one word: `--name=value`, or `--name` for a flag
abbrev pub value_part : Bool → List ℕ → List ℕ
value_part true value = []
value_part false value = 61 ∷ value

abbrev pub option_word : Key → List ℕ → List ℕ
option_word k value = codes "--" ++ key_name k ++ value_part (is_flag k) value

abbrev pub option_words : List (Key × List ℕ) → List (List ℕ)
option_words given = map (λ g. option_word g.0 g.1) given

-- the words of a command: the options in order, and the positionals after `--`
abbrev pub words_of : Line → List (List ℕ)
words_of line = option_words line.given ++ codes "--" ∷ line.positionals

-- the words that stand for the items of a line
abbrev pub canonical : Verb → Line → List (List ℕ)
canonical v line = verb_name v ∷ words_of line

abbrev pub canonical_of : Option (Verb × Line) → Option (List (List ℕ))
canonical_of None = None
canonical_of (Some said) = Some (canonical said.0 said.1)
