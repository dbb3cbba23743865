mod ListedVersions
mod VersionReplies
mod Coordinators
