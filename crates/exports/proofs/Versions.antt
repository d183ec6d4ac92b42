-- Version 0.10.0 as one number.
use mathlib.Core.Path.{◌≡◌, refl}
use Rattle.exports.specs.Version.{version}

pub version_number : version ≡ 1000
version_number = refl
