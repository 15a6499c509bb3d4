use Rattle.std.proofs.Common.{◌≡◌, ◌∙◌, ap, length, option_map, unwrap_or, Option}
use Rattle.serde_json.specs.Data.{Members}
use Rattle.m3_journal_json.specs.Objects.{keys_of}
use Rattle.m3_journal_json.proofs.Strings.{length_keys}
use Rattle.m3_journal_json.proofs.parts.key_count.Goals as goal

pub returns-in-Some : goal.returns-in-Some
returns-in-Some c =
    c.len.ensures.len ∙ length_keys c.in-Some.object.now.entries ∙ ap (λ (o : Option Members). unwrap_or (option_map (λ ms. length (keys_of ms)) o) 0) c.in-Some.ensures
