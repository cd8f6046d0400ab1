use Rattle.std.proofs.Common.{◌≡◌, map, take}
use Rattle.clap.specs.Words.{app_of}
use Rattle.ppq_words.specs.Command.{command_app}
use Rattle.ppq_words.proofs.usage.Usage.command.Given as goal

abbrev pub invariant-loop-option : goal.invariant-loop-option
invariant-loop-option l = record {
  told : app_of l.command ≡ command_app (record { word = l.self.word; options = map (λ o. o.now) (take l.option-index l.option-items) });
  options : map (λ o. o.now) l.option-items ≡ l.self.options;
}
