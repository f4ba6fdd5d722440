use Rattle.std.proofs.Common.{◌≡◌, ◌∙◌, ap, ap₂, true, codes}
use Rattle.clap.specs.Words.{App, app_of, with_rule, new_app}
use Rattle.clap.specs.Simple.{app_of_fields, on_top}
use Rattle.sygus_words.proofs.options.command.Goals as goal

abbrev no_help : App → App
no_help = on_top (λ s. record s { disable_help_flag = true })

abbrev no_version : App → App
no_version = on_top (λ s. record s { disable_version_flag = true })

pub returns : goal.returns
returns c =
    let help : app_of c.disable_help_flag.result ≡ no_help (new_app (codes "sygus")) = ap app_of_fields c.disable_help_flag.ensures ∙ ap no_help c.new.ensures.app in
    let bare : app_of c.disable_version_flag.result ≡ no_version (no_help (new_app (codes "sygus"))) = ap app_of_fields c.disable_version_flag.ensures ∙ ap no_version help in
    let mode = c.in_ok-arg.ensures.shape c.option.ensures.local ∙ ap₂ with_rule bare c.option.ensures.rule in
    let size = c.in_ok-arg-2.ensures.shape c.option-2.ensures.local ∙ ap₂ with_rule mode c.option-2.ensures.rule in
    let rounds = c.in_ok-arg-3.ensures.shape c.option-3.ensures.local ∙ ap₂ with_rule size c.option-3.ensures.rule in
    let points = c.in_ok-arg-4.ensures.shape c.option-4.ensures.local ∙ ap₂ with_rule rounds c.option-4.ensures.rule in
    let bank = c.in_ok-arg-5.ensures.shape c.option-5.ensures.local ∙ ap₂ with_rule points c.option-5.ensures.rule in
    let weight = c.in_ok-arg-6.ensures.shape c.option-6.ensures.local ∙ ap₂ with_rule bank c.option-6.ensures.rule in
    let clauses = c.in_ok-arg-7.ensures.shape c.option-7.ensures.local ∙ ap₂ with_rule weight c.option-7.ensures.rule in
    let nodes = c.in_ok-arg-8.ensures.shape c.option-8.ensures.local ∙ ap₂ with_rule clauses c.option-8.ensures.rule in
    let pivots = c.in_ok-arg-9.ensures.shape c.option-9.ensures.local ∙ ap₂ with_rule nodes c.option-9.ensures.rule in
    let proofs = c.in_ok-arg-10.ensures.shape c.flag.ensures.local ∙ ap₂ with_rule pivots c.flag.ensures.rule in
    c.in_ok-command.ensures.shape c.file.ensures.local ∙ ap₂ with_rule proofs c.file.ensures.rule
