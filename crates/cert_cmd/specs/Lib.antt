pub mod Check
pub mod WhatIf
pub mod Upgrade
pub mod Tighten
