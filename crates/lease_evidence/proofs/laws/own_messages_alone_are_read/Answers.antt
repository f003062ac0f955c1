use Rattle.lease_evidence.proofs.OwnProofs.{first_is_read, no_list_is_none, odd_flags_are_none, other_mac_is_none, own_frames_alone}
use Rattle.lease_evidence.proofs.laws.own_messages_alone_are_read.Goals as goal

pub returns-clause-alone : goal.returns-clause-alone
returns-clause-alone c = own_frames_alone

pub returns-clause-own : goal.returns-clause-own
returns-clause-own c = first_is_read

pub returns-clause-other_mac : goal.returns-clause-other_mac
returns-clause-other_mac c = other_mac_is_none

pub returns-clause-other_flags : goal.returns-clause-other_flags
returns-clause-other_flags c = odd_flags_are_none

pub returns-clause-no_list : goal.returns-clause-no_list
returns-clause-no_list c = no_list_is_none
