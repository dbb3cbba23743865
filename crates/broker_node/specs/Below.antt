-- What crates above this one name of those below it, so that these needn't be listed beside it.
pub use Rattle.copy_requests.specs.Codes.{deliver_code}
pub use Rattle.copy_requests.specs.Deliver.{is_in_range, has_seen_none, deliver_fault, deliver_checks, deliver_work, deliver_sent}
pub use Rattle.copy_requests.specs.declared.clean.Cleaning.{Cleaning}
pub use Rattle.copy_requests.specs.declared.clean.Cleaning.TheVariants.{Whole, Part}
pub use Rattle.copy_requests.specs.Clean.{cleaned, cleaning_report, clean_result, asked_part, cleaning_work, clean_work, clean_part_work, clean_sent}
pub use Rattle.copy_requests.specs.Import.{import_role_fault, import_fault, imported, import_work, import_sent}
pub use Rattle.copy_requests.specs.ImportDelta.{given_delta, delta_faults, import_delta_work}
pub use Rattle.copy_requests.specs.Trim.{trim_faults, trim_work, trim_sent}
