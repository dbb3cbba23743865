use Rattle.std.proofs.Common.{◌≡◌, ◌+◌, refl, rules}
use Rattle.log_requests.specs.Fetch.Entries.{fetch_entry_value}
use Rattle.sessions.proofs.Joining.{ends_at, same_joins}
use Rattle.sessions.proofs.Counting.{counts_one, counts_woken}
use Rattle.sessions.proofs.Standers.{standers_stay}
use Rattle.sessions.proofs.waiting.Waiting.add_asked.Goals as goal

pub returns-in_default-count_entry-clause-joins : goal.returns-in_default-count_entry-clause-joins
returns-in_default-count_entry-clause-joins g c due =
    same_joins c.args.state.now c.args.number due _ c.args.self.now _ c.self.view_is refl refl (c.wake.ensures.waits c.args.number) (λ j other. c.wake.ensures.waits j) c.wake.ensures.others

pub returns-in_default-count_entry-clause-counts : goal.returns-in_default-count_entry-clause-counts
returns-in_default-count_entry-clause-counts g c =
    let is : c.in-Some.count ≡ c.args.before + 1 = search rules in
    counts_woken c.args.state.now c.args.number c.args.before c.in-Some.count c.args.self.now _ (c.args.topic.now, fetch_entry_value c.args.entry) c.wake.ensures.wakes is

pub returns-in_err-add_counted-clause-joins : goal.returns-in_err-add_counted-clause-joins
returns-in_err-add_counted-clause-joins g c due =
    let found = c.in-Some-count_entry.ensures in
    c.add_counted.ensures.joins c.args.state.now due (ends_at c.args.state.now c.args.topic.now _ c.in-Some-count_entry.counted.place _ found.place found.end)

pub returns-clause-joins : goal.returns-clause-joins
returns-clause-joins g c due =
    let found = c.in-Some-count_entry.ensures in
    c.add_counted.ensures.joins c.args.state.now due (ends_at c.args.state.now c.args.topic.now _ c.in-Some-count_entry.counted.place _ found.place found.end)

pub returns-clause-counts : goal.returns-clause-counts
returns-clause-counts g c =
    let found = c.in-Some-count_entry.ensures in
    let is : c.in-Some.count ≡ c.args.before + 1 = search rules in
    let ends = ends_at c.args.state.now c.args.topic.now _ c.in-Some-count_entry.counted.place _ found.place found.end in
    let counted = c.in-Some-count_entry.counted in
    counts_one c.args.state.now c.args.number (0, 0) c.args.self.now c.add_counted.new.self (c.add_counted.ensures.joins c.args.state.now (0, 0) ends) c.args.topic.now (fetch_entry_value c.args.entry) counted.place found.place
    counted.bytes c.in-Some.count counted.room found.bytes found.room (c.in_ok-add_counted.ensures.puts c.args.state.now ends) c.args.before is c.in_ok-add_counted.ensures.sleeps

pub returns-in_default-count_entry-clause-standers : goal.returns-in_default-count_entry-clause-standers
returns-in_default-count_entry-clause-standers g c = standers_stay c.args.number _ c.args.self.now _ c.self.view_is refl (λ j other. c.wake.ensures.waits j) (c.wake.ensures.waits c.args.number)

pub returns-in_err-add_counted-clause-standers : goal.returns-in_err-add_counted-clause-standers
returns-in_err-add_counted-clause-standers g c = c.add_counted.ensures.standers

pub returns-clause-standers : goal.returns-clause-standers
returns-clause-standers g c = c.add_counted.ensures.standers
