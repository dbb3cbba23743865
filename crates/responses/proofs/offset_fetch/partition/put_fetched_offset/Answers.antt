use Rattle.std.proofs.Common.{◌≡◌, ◌∙◌, ℕ, List, ◌++◌, ap, refl, subst, to_z, of_z}
use Rattle.std.specs.Prelude.{OnOk}
use Rattle.std.specs.Int.{w16, w32, w64}
use Rattle.std.specs.Option.{option_map}
use Rattle.std.proofs.lemmas.Int.{to_z-of_z}
use Rattle.responses.proofs.OffsetFetchParts.{text_or_empty, around_metadata}
use Rattle.responses.proofs.offset_fetch.partition.put_fetched_offset.Goals as goal

pub returns-clause-appends : goal.returns-clause-appends
returns-clause-appends g c =
    let index = c.args.index in
    let offset = c.args.offset in
    let code = c.args.code in
    let text = ap (λ text. text.now) c.unwrap_or.ensures ∙ text_or_empty c.args.metadata _ refl in
    let parts = around_metadata c.before_metadata-before.result c.unwrap_or.result.now c.to_be_bytes.result index offset code (to_z w32 (of_z w32 index)) (to_z w64 (of_z w64 offset)) (to_z w16 (of_z w16 code)) (option_map (λ text. text.now) c.args.metadata)
    (to_z-of_z w32 index c.ranges.index) (to_z-of_z w64 offset c.ranges.offset) (to_z-of_z w16 code c.ranges.code) c.before_metadata-before.ensures text c.to_be_bytes.ensures in
    subst (λ (b : List ℕ). OnOk c.append_around.result (c.append_around.new.out.items ≡ c.args.out.now.items ++ b)) parts c.append_around.ensures.appends
