use Rattle.std.proofs.Common.{FitsSigned, w32, refl, subst, rules}
use Rattle.std.specs.Prelude.{IfOk, OnOk}
use Rattle.std.proofs.lemmas.Int.{to_z-of_z}
use Rattle.request_frames.specs.declared.parsing.RequestBody.TheVariants as variants
use Rattle.setup_requests.specs.FindCoordinator.{find_coordinator_work, find_coordinator_sent}
use Rattle.request_frames.specs.FindCoordinator.{find_coordinator_view}
use Rattle.setup_requests.specs.InitProducerId.{init_producer_id_work, init_producer_id_sent}
use Rattle.request_frames.specs.InitProducerId.{init_producer_id_view}
use Rattle.copy_requests.specs.Deliver.{deliver_work, deliver_sent}
use Rattle.request_frames.specs.Deliver.{deliver_view}
use Rattle.copy_requests.specs.Clean.{clean_work, clean_part_work, clean_sent}
use Rattle.request_frames.specs.Clean.{clean_view}
use Rattle.request_frames.specs.CleanPart.{clean_part_view}
use Rattle.copy_requests.specs.Export.{export_work, export_sent}
use Rattle.request_frames.specs.Export.{export_view}
use Rattle.copy_requests.specs.ExportDelta.{export_delta_work}
use Rattle.request_frames.specs.ExportDelta.{export_delta_view}
use Rattle.copy_requests.specs.Import.{import_work, import_sent}
use Rattle.request_frames.specs.Import.{import_view}
use Rattle.copy_requests.specs.ImportDelta.{import_delta_work}
use Rattle.request_frames.specs.ImportDelta.{import_delta_view}
use Rattle.copy_requests.specs.Get.{get_work, get_sent}
use Rattle.request_frames.specs.Get.{get_view}
use Rattle.copy_requests.specs.Cover.{cover_work, cover_sent}
use Rattle.request_frames.specs.Cover.{cover_view}
use Rattle.copy_requests.specs.Trim.{trim_work, trim_sent}
use Rattle.request_frames.specs.Trim.{trim_view}
use Rattle.group_requests.specs.ForgetGroup.{forget_group_work, forget_group_sent}
use Rattle.request_frames.specs.ForgetGroup.{forget_group_view}
use Rattle.log_requests.specs.Produce.{produce_plan}
use Rattle.request_frames.specs.Produce.{produce_view}
use Rattle.log_requests.specs.Fetch.{fetch_plan}
use Rattle.request_frames.specs.Fetch.{fetch_view}
use Rattle.log_requests.specs.ListOffsets.{list_offsets_plan}
use Rattle.request_frames.specs.ListOffsets.{list_offsets_view}
use Rattle.group_requests.specs.OffsetCommit.{offset_commit_plan}
use Rattle.request_frames.specs.OffsetCommit.{offset_commit_view}
use Rattle.group_requests.specs.OffsetFetch.{offset_fetch_plan}
use Rattle.request_frames.specs.OffsetFetch.{offset_fetch_view}
use Rattle.answering.specs.Responding.{RespondsBy}
use Rattle.answering.specs.Telling.{RespondsTold}
use Rattle.broker_node.proofs.HandledReplies.{plan_responds, metadata_responds, versions_respond, once_responds}
use Rattle.broker_node.proofs.ToldReplies.{planned_exactly, once_exactly, reads_exactly}
use Rattle.broker_node.proofs.handling.reply_to.Goals as goal

pub returns-in-Metadata-clause-handles : goal.returns-in-Metadata-clause-handles
returns-in-Metadata-clause-handles g c =
    let fits : FitsSigned w32 c.args.request.now.correlation = search rules in
    reads_exactly c.only_reads-in-Metadata.result c.reply_to_metadata.result c.args.state.now c.args.request.now (variants.Metadata c.in-Metadata.asked) c.args.out.now.items c.reply_to_metadata.new.out.items c.only_reads-in-Metadata.ensures c.in-Metadata.is refl
    (metadata_responds c.reply_to_metadata.result c.args.state.now c.args.request.now c.in-Metadata.asked _ c.args.out.now.items c.reply_to_metadata.new.out.items (to_z-of_z w32 c.args.request.now.correlation fits) c.in-Metadata.is c.reply_to_metadata.ensures.replies)

pub returns-in-FindCoordinator-clause-handles : goal.returns-in-FindCoordinator-clause-handles
returns-in-FindCoordinator-clause-handles g c =
    let fits : FitsSigned w32 c.args.request.now.correlation = search rules in
    reads_exactly c.only_reads-in-FindCoordinator.result c.reply_to_find_coordinator.result c.args.state.now c.args.request.now (variants.FindCoordinator c.in-FindCoordinator.asked) c.args.out.now.items c.reply_to_find_coordinator.new.out.items c.only_reads-in-FindCoordinator.ensures c.in-FindCoordinator.is refl
    (once_responds find_coordinator_sent (find_coordinator_work c.args.state.now (find_coordinator_view c.in-FindCoordinator.asked)) c.reply_to_find_coordinator.result c.args.state.now c.args.state.now c.args.request.now (variants.FindCoordinator c.in-FindCoordinator.asked) _ c.args.out.now.items c.reply_to_find_coordinator.new.out.items (to_z-of_z w32 c.args.request.now.correlation fits) c.in-FindCoordinator.is (λ response r. r) c.reply_to_find_coordinator.ensures.responds)

pub returns-in-ApiVersions-clause-handles : goal.returns-in-ApiVersions-clause-handles
returns-in-ApiVersions-clause-handles g c =
    let fits : FitsSigned w32 c.args.request.now.correlation = search rules in
    reads_exactly c.only_reads-in-ApiVersions.result c.reply_to_api_versions.result c.args.state.now c.args.request.now (variants.ApiVersions c.in-ApiVersions.asked) c.args.out.now.items c.reply_to_api_versions.new.out.items c.only_reads-in-ApiVersions.ensures c.in-ApiVersions.is refl
    (versions_respond c.reply_to_api_versions.result c.args.state.now c.args.request.now c.in-ApiVersions.asked _ c.args.out.now.items c.reply_to_api_versions.new.out.items (to_z-of_z w32 c.args.request.now.correlation fits) c.in-ApiVersions.is c.reply_to_api_versions.ensures.replies)

pub returns-in-InitProducerId-clause-handles : goal.returns-in-InitProducerId-clause-handles
returns-in-InitProducerId-clause-handles g c =
    let fits : FitsSigned w32 c.args.request.now.correlation = search rules in
    once_exactly init_producer_id_sent (init_producer_id_work c.args.state.now (init_producer_id_view c.in-InitProducerId.asked)) c.reply_to_init_producer_id.result c.args.state.now c.reply_to_init_producer_id.new.state c.args.request.now (variants.InitProducerId c.in-InitProducerId.asked) _ c.args.out.now.items c.reply_to_init_producer_id.new.out.items (to_z-of_z w32 c.args.request.now.correlation fits) c.in-InitProducerId.is refl (λ memory response told. told) c.reply_to_init_producer_id.ensures.responds

pub returns-in-Deliver-clause-handles : goal.returns-in-Deliver-clause-handles
returns-in-Deliver-clause-handles g c =
    let fits : FitsSigned w32 c.args.request.now.correlation = search rules in
    once_exactly deliver_sent (deliver_work c.args.state.now (deliver_view c.in-Deliver.asked)) c.reply_to_deliver.result c.args.state.now c.reply_to_deliver.new.state c.args.request.now (variants.Deliver c.in-Deliver.asked) _ c.args.out.now.items c.reply_to_deliver.new.out.items (to_z-of_z w32 c.args.request.now.correlation fits) c.in-Deliver.is refl (λ memory response told. told) c.reply_to_deliver.ensures.responds

pub returns-in-Clean-clause-handles : goal.returns-in-Clean-clause-handles
returns-in-Clean-clause-handles g c =
    let fits : FitsSigned w32 c.args.request.now.correlation = search rules in
    once_exactly clean_sent (clean_work c.args.state.now (clean_view c.in-Clean.asked)) c.reply_to_clean.result c.args.state.now c.reply_to_clean.new.state c.args.request.now (variants.Clean c.in-Clean.asked) _ c.args.out.now.items c.reply_to_clean.new.out.items (to_z-of_z w32 c.args.request.now.correlation fits) c.in-Clean.is refl (λ memory response told. told) c.reply_to_clean.ensures.responds

pub returns-in-CleanPart-clause-handles : goal.returns-in-CleanPart-clause-handles
returns-in-CleanPart-clause-handles g c =
    let fits : FitsSigned w32 c.args.request.now.correlation = search rules in
    once_exactly clean_sent (clean_part_work c.args.state.now (clean_part_view c.in-CleanPart.asked)) c.reply_to_clean_part.result c.args.state.now c.reply_to_clean_part.new.state c.args.request.now (variants.CleanPart c.in-CleanPart.asked) _ c.args.out.now.items c.reply_to_clean_part.new.out.items (to_z-of_z w32 c.args.request.now.correlation fits) c.in-CleanPart.is refl (λ memory response told. told) c.reply_to_clean_part.ensures.responds

pub returns-in-Export-clause-handles : goal.returns-in-Export-clause-handles
returns-in-Export-clause-handles g c =
    let fits : FitsSigned w32 c.args.request.now.correlation = search rules in
    reads_exactly c.only_reads-in-Export.result c.reply_to_export.result c.args.state.now c.args.request.now (variants.Export c.in-Export.asked) c.args.out.now.items c.reply_to_export.new.out.items c.only_reads-in-Export.ensures c.in-Export.is refl
    (once_responds export_sent (export_work c.args.state.now (export_view c.in-Export.asked)) c.reply_to_export.result c.args.state.now c.args.state.now c.args.request.now (variants.Export c.in-Export.asked) _ c.args.out.now.items c.reply_to_export.new.out.items (to_z-of_z w32 c.args.request.now.correlation fits) c.in-Export.is (λ response r. r) c.reply_to_export.ensures.responds)

pub returns-in-ExportDelta-clause-handles : goal.returns-in-ExportDelta-clause-handles
returns-in-ExportDelta-clause-handles g c =
    let fits : FitsSigned w32 c.args.request.now.correlation = search rules in
    reads_exactly c.only_reads-in-ExportDelta.result c.reply_to_export_delta.result c.args.state.now c.args.request.now (variants.ExportDelta c.in-ExportDelta.asked) c.args.out.now.items c.reply_to_export_delta.new.out.items c.only_reads-in-ExportDelta.ensures c.in-ExportDelta.is refl
    (once_responds export_sent (export_delta_work c.args.state.now (export_delta_view c.in-ExportDelta.asked)) c.reply_to_export_delta.result c.args.state.now c.args.state.now c.args.request.now (variants.ExportDelta c.in-ExportDelta.asked) _ c.args.out.now.items c.reply_to_export_delta.new.out.items (to_z-of_z w32 c.args.request.now.correlation fits) c.in-ExportDelta.is (λ response r. r) c.reply_to_export_delta.ensures.responds)

pub returns-in-Import-clause-handles : goal.returns-in-Import-clause-handles
returns-in-Import-clause-handles g c =
    let fits : FitsSigned w32 c.args.request.now.correlation = search rules in
    once_exactly import_sent (import_work c.args.state.now (import_view c.in-Import.asked)) c.reply_to_import.result c.args.state.now c.reply_to_import.new.state c.args.request.now (variants.Import c.in-Import.asked) _ c.args.out.now.items c.reply_to_import.new.out.items (to_z-of_z w32 c.args.request.now.correlation fits) c.in-Import.is refl (λ memory response told. told) c.reply_to_import.ensures.responds

pub returns-in-ImportDelta-clause-handles : goal.returns-in-ImportDelta-clause-handles
returns-in-ImportDelta-clause-handles g c =
    let fits : FitsSigned w32 c.args.request.now.correlation = search rules in
    once_exactly import_sent (import_delta_work c.args.state.now (import_delta_view c.in-ImportDelta.asked)) c.reply_to_import_delta.result c.args.state.now c.reply_to_import_delta.new.state c.args.request.now (variants.ImportDelta c.in-ImportDelta.asked) _ c.args.out.now.items c.reply_to_import_delta.new.out.items (to_z-of_z w32 c.args.request.now.correlation fits) c.in-ImportDelta.is refl (λ memory response told. told) c.reply_to_import_delta.ensures.responds

pub returns-in-Get-clause-handles : goal.returns-in-Get-clause-handles
returns-in-Get-clause-handles g c =
    let fits : FitsSigned w32 c.args.request.now.correlation = search rules in
    reads_exactly c.only_reads-in-Get.result c.reply_to_get.result c.args.state.now c.args.request.now (variants.Get c.in-Get.asked) c.args.out.now.items c.reply_to_get.new.out.items c.only_reads-in-Get.ensures c.in-Get.is refl
    (once_responds get_sent (get_work c.args.state.now (get_view c.in-Get.asked)) c.reply_to_get.result c.args.state.now c.args.state.now c.args.request.now (variants.Get c.in-Get.asked) _ c.args.out.now.items c.reply_to_get.new.out.items (to_z-of_z w32 c.args.request.now.correlation fits) c.in-Get.is (λ response r. r) c.reply_to_get.ensures.responds)

pub returns-in-Cover-clause-handles : goal.returns-in-Cover-clause-handles
returns-in-Cover-clause-handles g c =
    let fits : FitsSigned w32 c.args.request.now.correlation = search rules in
    reads_exactly c.only_reads-in-Cover.result c.reply_to_cover.result c.args.state.now c.args.request.now (variants.Cover c.in-Cover.asked) c.args.out.now.items c.reply_to_cover.new.out.items c.only_reads-in-Cover.ensures c.in-Cover.is refl
    (once_responds cover_sent (cover_work c.args.state.now (cover_view c.in-Cover.asked)) c.reply_to_cover.result c.args.state.now c.args.state.now c.args.request.now (variants.Cover c.in-Cover.asked) _ c.args.out.now.items c.reply_to_cover.new.out.items (to_z-of_z w32 c.args.request.now.correlation fits) c.in-Cover.is (λ response r. r) c.reply_to_cover.ensures.responds)

pub returns-in-ForgetGroup-clause-handles : goal.returns-in-ForgetGroup-clause-handles
returns-in-ForgetGroup-clause-handles g c =
    let fits : FitsSigned w32 c.args.request.now.correlation = search rules in
    once_exactly forget_group_sent (forget_group_work c.args.state.now (forget_group_view c.in-ForgetGroup.asked)) c.reply_to_forget_group.result c.args.state.now c.reply_to_forget_group.new.state c.args.request.now (variants.ForgetGroup c.in-ForgetGroup.asked) _ c.args.out.now.items c.reply_to_forget_group.new.out.items (to_z-of_z w32 c.args.request.now.correlation fits) c.in-ForgetGroup.is refl (λ memory response told. told) c.reply_to_forget_group.ensures.responds

pub returns-in-Trim-clause-handles : goal.returns-in-Trim-clause-handles
returns-in-Trim-clause-handles g c =
    let fits : FitsSigned w32 c.args.request.now.correlation = search rules in
    once_exactly trim_sent (trim_work c.args.state.now (trim_view c.in-Trim.asked)) c.reply_to_trim.result c.args.state.now c.reply_to_trim.new.state c.args.request.now (variants.Trim c.in-Trim.asked) _ c.args.out.now.items c.reply_to_trim.new.out.items (to_z-of_z w32 c.args.request.now.correlation fits) c.in-Trim.is refl (λ memory response told. told) c.reply_to_trim.ensures.responds

pub returns-in-Fetch-clause-handles : goal.returns-in-Fetch-clause-handles
returns-in-Fetch-clause-handles g c =
    let fits : FitsSigned w32 c.args.request.now.correlation = search rules in
    reads_exactly c.only_reads.result c.reply_to_fetch.result c.args.state.now c.args.request.now (variants.Fetch c.in-Fetch.asked) c.args.out.now.items c.reply_to_fetch.new.out.items c.only_reads.ensures c.in-Fetch.is refl
    (plan_responds (fetch_plan c.args.state.now c.args.request.now.correlation (fetch_view c.in-Fetch.asked)) c.reply_to_fetch.result c.args.state.now c.args.state.now c.args.request.now (variants.Fetch c.in-Fetch.asked) c.args.out.now.items c.reply_to_fetch.new.out.items c.in-Fetch.is (λ response r. r) (subst (λ n. OnOk c.reply_to_fetch.result (RespondsBy (fetch_plan c.args.state.now n (fetch_view c.in-Fetch.asked)) c.args.out.now.items c.reply_to_fetch.new.out.items c.args.state.now)) (to_z-of_z w32 c.args.request.now.correlation fits) c.reply_to_fetch.ensures.responds))

pub returns-in-ListOffsets-clause-handles : goal.returns-in-ListOffsets-clause-handles
returns-in-ListOffsets-clause-handles g c =
    let fits : FitsSigned w32 c.args.request.now.correlation = search rules in
    reads_exactly c.only_reads-in-ListOffsets.result c.reply_to_list_offsets.result c.args.state.now c.args.request.now (variants.ListOffsets c.in-ListOffsets.asked) c.args.out.now.items c.reply_to_list_offsets.new.out.items c.only_reads-in-ListOffsets.ensures c.in-ListOffsets.is refl
    (plan_responds (list_offsets_plan c.args.state.now c.args.request.now.correlation (list_offsets_view c.in-ListOffsets.asked)) c.reply_to_list_offsets.result c.args.state.now c.args.state.now c.args.request.now (variants.ListOffsets c.in-ListOffsets.asked) c.args.out.now.items c.reply_to_list_offsets.new.out.items c.in-ListOffsets.is (λ response r. r) (subst (λ n. OnOk c.reply_to_list_offsets.result (RespondsBy (list_offsets_plan c.args.state.now n (list_offsets_view c.in-ListOffsets.asked)) c.args.out.now.items c.reply_to_list_offsets.new.out.items c.args.state.now)) (to_z-of_z w32 c.args.request.now.correlation fits) c.reply_to_list_offsets.ensures.responds))

pub returns-in-OffsetFetch-clause-handles : goal.returns-in-OffsetFetch-clause-handles
returns-in-OffsetFetch-clause-handles g c =
    let fits : FitsSigned w32 c.args.request.now.correlation = search rules in
    reads_exactly c.only_reads-in-OffsetFetch.result c.reply_to_offset_fetch.result c.args.state.now c.args.request.now (variants.OffsetFetch c.in-OffsetFetch.asked) c.args.out.now.items c.reply_to_offset_fetch.new.out.items c.only_reads-in-OffsetFetch.ensures c.in-OffsetFetch.is refl
    (plan_responds (offset_fetch_plan c.args.state.now c.args.request.now.correlation (offset_fetch_view c.in-OffsetFetch.asked)) c.reply_to_offset_fetch.result c.args.state.now c.args.state.now c.args.request.now (variants.OffsetFetch c.in-OffsetFetch.asked) c.args.out.now.items c.reply_to_offset_fetch.new.out.items c.in-OffsetFetch.is (λ response r. r) (subst (λ n. OnOk c.reply_to_offset_fetch.result (RespondsBy (offset_fetch_plan c.args.state.now n (offset_fetch_view c.in-OffsetFetch.asked)) c.args.out.now.items c.reply_to_offset_fetch.new.out.items c.args.state.now)) (to_z-of_z w32 c.args.request.now.correlation fits) c.reply_to_offset_fetch.ensures.responds))

pub returns-in-Produce-clause-handles : goal.returns-in-Produce-clause-handles
returns-in-Produce-clause-handles g c =
    let fits : FitsSigned w32 c.args.request.now.correlation = search rules in
    planned_exactly (produce_plan c.args.state.now c.args.request.now.correlation (produce_view c.in-Produce.asked)) c.reply_to_produce.result c.args.state.now c.reply_to_produce.new.state c.args.request.now (variants.Produce c.in-Produce.asked) c.args.out.now.items c.reply_to_produce.new.out.items c.in-Produce.is refl refl (λ memory response told. told)
    (subst (λ n. IfOk c.reply_to_produce.result (λ memory. RespondsTold (produce_plan c.args.state.now n (produce_view c.in-Produce.asked)) c.args.out.now.items c.reply_to_produce.new.out.items memory c.reply_to_produce.new.state)) (to_z-of_z w32 c.args.request.now.correlation fits) c.reply_to_produce.ensures.responds)

pub returns-in-OffsetCommit-clause-handles : goal.returns-in-OffsetCommit-clause-handles
returns-in-OffsetCommit-clause-handles g c =
    let fits : FitsSigned w32 c.args.request.now.correlation = search rules in
    planned_exactly (offset_commit_plan c.args.state.now c.args.request.now.correlation (offset_commit_view c.in-OffsetCommit.asked)) c.reply_to_offset_commit.result c.args.state.now c.reply_to_offset_commit.new.state c.args.request.now (variants.OffsetCommit c.in-OffsetCommit.asked) c.args.out.now.items c.reply_to_offset_commit.new.out.items c.in-OffsetCommit.is refl refl (λ memory response told. told)
    (subst (λ n. IfOk c.reply_to_offset_commit.result (λ memory. RespondsTold (offset_commit_plan c.args.state.now n (offset_commit_view c.in-OffsetCommit.asked)) c.args.out.now.items c.reply_to_offset_commit.new.out.items memory c.reply_to_offset_commit.new.state)) (to_z-of_z w32 c.args.request.now.correlation fits) c.reply_to_offset_commit.ensures.responds)
