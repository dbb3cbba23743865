use Rattle.std.proofs.Common.{ℕ, List, [], map, get_or, refl, sym, true≢false}
use Rattle.group_offsets.specs.Walks.{Borrowed}
use Rattle.group_offsets.proofs.MappedElements.{mapped, in_map, past_map}
use Rattle.group_offsets.proofs.BatchSizes.{count_next, key_too_large, all_counted}
use Rattle.group_offsets.proofs.sizes.is_small.Goals as goal

abbrev bytes_of : Borrowed → List ℕ
bytes_of key = key.now

pub returns-in-None : goal.returns-in-None
returns-in-None c =
    let keys = c.args.keys.now in
    let i = c.loop-i.i in
    let d : Borrowed = record { ref_ptr = (0, 0); now = [] } in (
      (λ f. absurd (true≢false (sym f))),
      λ small. absurd (key_too_large (map bytes_of keys) i c.loop-i.size (get_or keys i d).now (in_map bytes_of keys i c.loop-i-test.true) (mapped bytes_of keys i d c.loop-i-test.true) c.in-None.ensures c.loop-i.invariant small),
    )

pub loop-i-preserved : goal.loop-i-preserved
loop-i-preserved c =
    let keys = c.args.keys.now in
    let i = c.loop-i.i in
    let d : Borrowed = record { ref_ptr = (0, 0); now = [] } in
    count_next (map bytes_of keys) i c.loop-i.size c.in-Some.size (get_or keys i d).now (in_map bytes_of keys i c.loop-i-test.true) (mapped bytes_of keys i d c.loop-i-test.true) c.in-Some.ensures c.loop-i.invariant

pub returns : goal.returns
returns c =
    let keys = c.args.keys.now in
    ((λ t. all_counted (map bytes_of keys) c.loop-i.i c.loop-i.size (past_map bytes_of keys c.loop-i.i c.loop-i-test.false) c.loop-i.invariant), λ small. refl)
