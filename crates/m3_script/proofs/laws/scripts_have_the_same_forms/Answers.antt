use Rattle.m3_script.proofs.Built.{event_of_script, setup_of_script}
use Rattle.m3_script.proofs.laws.scripts_have_the_same_forms.Goals as goal

pub returns-clause-events : goal.returns-clause-events
returns-clause-events c = event_of_script

pub returns-clause-setup_lines : goal.returns-clause-setup_lines
returns-clause-setup_lines c = setup_of_script
