use Rattle.std.proofs.Common.{ap, ap₂, codes, true, map, ◌≡◌, ◌∙◌}
use Rattle.clap.specs.Simple.{app_of, app_of_fields, new_app, with_rule, on_top}
use Rattle.cqp_words.specs.Apps.{cqp, bare}
use Rattle.cqp_words.proofs.Shapes.{is_plain_app}
use Rattle.cqp_words.proofs.Matching.{read_as}
use Rattle.cqp_words.proofs.matched.matched.Goals as goal

pub returns : goal.returns
returns c =
    let named : app_of c.no_binary_name.result ≡ on_top (λ s. record s { no_binary_name = true }) (new_app (codes "cqp")) =
    ap app_of_fields c.no_binary_name.ensures ∙ ap (on_top (λ s. record s { no_binary_name = true })) c.new.ensures.app in
    let bare_is : app_of c.disable_help_flag.result ≡ bare (codes "cqp") =
    ap app_of_fields c.disable_help_flag.ensures ∙ ap (on_top (λ s. record s { disable_help_flag = true })) named in
    let first = c.in_ok-arg.ensures.shape c.own-word.ensures.local ∙ ap₂ with_rule bare_is c.own-word.ensures.rule in
    let second = c.in_ok-arg-2.ensures.shape c.option.ensures.local ∙ ap₂ with_rule first c.option.ensures.rule in
    let third = c.in_ok-arg-3.ensures.shape c.option-2.ensures.local ∙ ap₂ with_rule second c.option-2.ensures.rule in
    let fourth = c.in_ok-arg-4.ensures.shape c.option-3.ensures.local ∙ ap₂ with_rule third c.option-3.ensures.rule in
    let fifth = c.in_ok-arg-5.ensures.shape c.option-4.ensures.local ∙ ap₂ with_rule fourth c.option-4.ensures.rule in
    let last = c.in_ok-arg-6 in
    let cqp_is : app_of last.field-0 ≡ cqp = last.ensures.shape c.option-5.ensures.local ∙ ap₂ with_rule fifth c.option-5.ensures.rule in
    let parse = c.try_get_matches_from in
    let words = map (λ w. w.now) c.args.words.now in
    let read = read_as (app_of last.field-0) cqp words parse.result cqp_is is_plain_app parse.ensures.kinds parse.ensures.matches in
    record { taken = read.taken; refused = read.refused }
