pub mod CrcShifts
pub mod CrcTables
pub mod CrcWords
