-- What may be done in part, for want of memory.
use Rattle.std.proofs.Common.{◌≡◌, ◌⊎◌, inl, inr, ℕ, ℤ, true, false, List, Option, refl, sym, true≢false}
use Rattle.request_frames.specs.Requests.BodyValue.{produce, fetch, list_offsets, metadata, offset_commit, offset_fetch, find_coordinator, api_versions, init_producer_id, deliver, clean, clean_part, export, export_delta, import, import_delta, get, cover, forget_group, trim}
use Rattle.request_frames.specs.Requests.{BodyValue, RequestValue}
use Rattle.request_frames.specs.Produce.{ProduceValue}
use Rattle.request_frames.specs.OffsetCommit.{OffsetCommitValue}
use Rattle.broker_state.specs.State.{State}
use Rattle.broker_node.specs.Kinds.{kind}
use Rattle.broker_node.specs.Effects.{may_change}
use Rattle.broker_node.specs.Exactly.{LacksInPartByWay, LacksMemoryInPart}

by_body : (s after : State) (n : ℤ) (body : BodyValue) (out : Option (List ℕ)) → may_change body ≡ true → LacksInPartByWay ((kind body).way s n) out after
    → ((v : ProduceValue) × (body ≡ produce v)) ⊎ ((v : OffsetCommitValue) × (body ≡ offset_commit v))
by_body s after n (produce q) out changes lacks = inl (q, refl)
by_body s after n (fetch q) out changes lacks = absurd (true≢false (sym changes))
by_body s after n (list_offsets q) out changes lacks = absurd (true≢false (sym changes))
by_body s after n (metadata q) out changes lacks = absurd lacks
by_body s after n (offset_commit q) out changes lacks = inr (q, refl)
by_body s after n (offset_fetch q) out changes lacks = absurd (true≢false (sym changes))
by_body s after n (find_coordinator q) out changes lacks = absurd lacks
by_body s after n (api_versions q) out changes lacks = absurd lacks
by_body s after n (init_producer_id q) out changes lacks = absurd lacks
by_body s after n (deliver q) out changes lacks = absurd lacks
by_body s after n (clean q) out changes lacks = absurd lacks
by_body s after n (clean_part q) out changes lacks = absurd lacks
by_body s after n (export q) out changes lacks = absurd lacks
by_body s after n (export_delta q) out changes lacks = absurd lacks
by_body s after n (import q) out changes lacks = absurd lacks
by_body s after n (import_delta q) out changes lacks = absurd lacks
by_body s after n (get q) out changes lacks = absurd lacks
by_body s after n (cover q) out changes lacks = absurd lacks
by_body s after n (forget_group q) out changes lacks = absurd lacks
by_body s after n (trim q) out changes lacks = absurd lacks

pub of_entries : (s after : State) (q : RequestValue) (out : Option (List ℕ)) → may_change q.body ≡ true → LacksMemoryInPart s q out after
    → ((v : ProduceValue) × (q.body ≡ produce v)) ⊎ ((v : OffsetCommitValue) × (q.body ≡ offset_commit v))
of_entries s after q out changes lacks = by_body s after q.correlation q.body out changes lacks
