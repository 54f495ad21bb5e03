-- The command as `clap` reads it: words of their own, and five options with a value each.
use Rattle.std.specs.Prelude.{List, Some, codes, true}
use Rattle.clap.specs.declared.builder.action.ArgAction.TheVariants.{Append}
use Rattle.clap.specs.Walk.{Rule, Text}
use Rattle.clap.specs.Simple.{App, Shape, built, new_app, new_rule, with_rule, on_top}

-- the option of this name
abbrev pub option_rule : Text → Rule
option_rule id = record (new_rule id) { long = Some id; action = Some Append }

-- words that are no options, and no values of these
abbrev pub word_rule : Rule
word_rule = record (new_rule (codes "word")) { action = Some Append }

-- a command without arguments, whose words are all its own, without help words
abbrev pub bare : Text → App
bare name =
    on_top (λ s. record s { no_binary_name = true; disable_help_flag = true }) (new_app name)

-- the command: words of their own, and the five options
abbrev pub cqp : App
cqp =
    with_rule (with_rule (with_rule (with_rule (with_rule (with_rule (bare (codes "cqp")) word_rule)
    (option_rule (codes "workers"))) (option_rule (codes "script"))) (option_rule (codes "seed")))
    (option_rule (codes "born"))) (option_rule (codes "rules"))

-- the command once it is built
abbrev pub shape : Shape
shape = (built cqp).top

-- its arguments
abbrev pub rules : List Rule
rules = shape.rules
