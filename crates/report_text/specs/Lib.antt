pub mod Notes
pub mod Launches
pub mod Wording
pub mod Answers
pub mod Scores
pub mod exposure_score
pub mod questions
pub mod script_text
pub use Rattle.exposure_score.specs.abs_path as abs_path
pub use Rattle.exposure_score.specs.call_table as call_table
pub use Rattle.exposure_score.specs.cap_sets as cap_sets
pub use Rattle.exposure_score.specs.dropin_merge as dropin_merge
pub use Rattle.questions.specs.filter_settings as filter_settings
pub use Rattle.questions.specs.kernel_laws as kernel_laws
pub use Rattle.questions.specs.linux_numbers as linux_numbers
pub use Rattle.exposure_score.specs.mount_settings as mount_settings
pub use Rattle.exposure_score.specs.site_table as site_table
pub use Rattle.exposure_score.specs.text_forms as text_forms
pub use Rattle.exposure_score.specs.unit_grammar as unit_grammar
