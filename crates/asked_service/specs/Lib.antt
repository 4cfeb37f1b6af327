pub mod Asked
pub mod Rows
pub mod launching
pub mod OneLaunch
pub mod Answers
pub mod AnswerLines
pub mod Folders
pub mod ByRule
pub mod Asking
pub mod Lent
pub mod verdict_changes
pub mod Scripts
pub mod open_calls
pub mod judge
pub mod plan_command
pub mod report_text
pub use Rattle.judge.specs.abs_path as abs_path
pub use Rattle.judge.specs.bpf_code as bpf_code
pub use Rattle.judge.specs.call_rules as call_rules
pub use Rattle.judge.specs.call_table as call_table
pub use Rattle.judge.specs.cap_sets as cap_sets
pub use Rattle.judge.specs.ceilings as ceilings
pub use Rattle.judge.specs.cred_settings as cred_settings
pub use Rattle.judge.specs.dropin_merge as dropin_merge
pub use Rattle.judge.specs.exec_settings as exec_settings
pub use Rattle.report_text.specs.filter_settings as filter_settings
pub use Rattle.plan_command.specs.host_io as host_io
pub use Rattle.judge.specs.kern_creds as kern_creds
pub use Rattle.judge.specs.kern_mounts as kern_mounts
pub use Rattle.judge.specs.kernel_laws as kernel_laws
pub use Rattle.judge.specs.kernel_model as kernel_model
pub use Rattle.judge.specs.kernel_ways as kernel_ways
pub use Rattle.judge.specs.launcher as launcher
pub use Rattle.judge.specs.linux_numbers as linux_numbers
pub use Rattle.judge.specs.mount_plan as mount_plan
pub use Rattle.judge.specs.mount_settings as mount_settings
pub use Rattle.judge.specs.path_settings as path_settings
pub use Rattle.report_text.specs.script_text as script_text
pub use Rattle.judge.specs.site_table as site_table
pub use Rattle.plan_command.specs.text_forms as text_forms
pub use Rattle.report_text.specs.unit_grammar as unit_grammar
pub use Rattle.plan_command.specs.unit_inputs as unit_inputs
pub use Rattle.plan_command.specs.unit_names as unit_names
