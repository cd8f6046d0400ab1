use Rattle.std.proofs.Common.{◌∙◌, ◌<◌, ap, ap₂, arith, length, Some}
use Rattle.clap.specs.Words.{Rule, Text, rule_of, with_rule}
use Rattle.clap.specs.declared.builder.arg.Arg.{Arg}
use Rattle.ppq_words.proofs.Found.{grown, option_there, stripped}
use Rattle.ppq_words.proofs.usage.Usage.command.Goals as goal

pub loop-option-preserved : goal.loop-option-preserved
loop-option-preserved c =
    let items = c.self.inside.options.now in
    let i = c.loop-option.option-index in
    let below : i < length items = omega arith in
    let name_is = stripped _ c.strip_prefix.result _ (option_there items i _ below c.self.invariant) c.strip_prefix.ensures.cases in
    let rule_is = ap rule_of c.long.ensures ∙ ap₂ (λ (r : Rule) (name : Text). record r { long = Some name }) c.new-in-loop-option.ensures.rule (ap (λ b. b.now) c.unwrap_or-name.ensures ∙ name_is) in
    let local = ap (λ (a : Arg). a.global) c.long.ensures ∙ c.new-in-loop-option.ensures.optional.1 in
    record {
      told = c.in_ok-command-2.ensures.shape local ∙ (ap₂ with_rule c.loop-option.invariant.told rule_is ∙ grown _ items i _ below);
      options = c.loop-option.invariant.options;
    }
