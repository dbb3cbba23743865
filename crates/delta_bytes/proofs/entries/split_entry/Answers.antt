use Rattle.std.proofs.Common.{rules, ◌≡◌, ◌≢◌, ◌∷◌, length}
use Rattle.delta_bytes.specs.declared.layout.TheConstants.{LISTED}
use Rattle.delta_bytes.proofs.EntryViews.{none_left, list_there, list_first, batch_there, batch_writable, batch_first}
use Rattle.delta_bytes.proofs.entries.split_entry.Goals as goal

pub returns-in_default : goal.returns-in_default
returns-in_default c entries are =
    let none : length c.args.bytes.now ≡ 0 = search rules in
    none_left entries c.args.bytes.now are none

pub split_list-requires : goal.split_list-requires
split_list-requires c =
    let parts : c.args.bytes.now ≡ c.in-Some.kind.now ∷ c.in-Some.behind.now = search rules in
    let there = list_there c.requires.0 c.in-Some.kind.now c.in-Some.behind.now c.args.bytes.now c.requires.1 parts c.if-kind-eq-LISTED.true in
    (there.base, there.offsets, there.at)

pub returns-then-kind-eq-LISTED : goal.returns-then-kind-eq-LISTED
returns-then-kind-eq-LISTED c entries are =
    let parts : c.args.bytes.now ≡ c.in-Some.kind.now ∷ c.in-Some.behind.now = search rules in
    let there = list_there entries c.in-Some.kind.now c.in-Some.behind.now c.args.bytes.now are parts c.if-kind-eq-LISTED.true in
    let read = c.split_list.ensures there.base there.offsets there.at in
    list_first entries c.in-Some.behind.now there _ _ _ read.0 read.1 read.2

pub split_batch-batch-requires : goal.split_batch-batch-requires
split_batch-batch-requires c =
    let parts : c.args.bytes.now ≡ c.in-Some.kind.now ∷ c.in-Some.behind.now = search rules in
    let other : c.in-Some.kind.now ≢ LISTED = c.if-kind-eq-LISTED.false in
    let there = batch_there c.requires.0 c.in-Some.kind.now c.in-Some.behind.now c.args.bytes.now c.requires.1 parts other in
    (there.batch, _, batch_writable there.batch there.valid, there.encoded)

pub returns : goal.returns
returns c entries are =
    let parts : c.args.bytes.now ≡ c.in-Some.kind.now ∷ c.in-Some.behind.now = search rules in
    let other : c.in-Some.kind.now ≢ LISTED = c.if-kind-eq-LISTED.false in
    let there = batch_there entries c.in-Some.kind.now c.in-Some.behind.now c.args.bytes.now are parts other in
    let read = c.split_batch-batch.ensures there.batch _ (batch_writable there.batch there.valid) there.encoded in
    batch_first entries c.in-Some.behind.now there _ _ read.0 read.1
